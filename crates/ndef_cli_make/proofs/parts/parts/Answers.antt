use Rattle.std.proofs.Common.{rules, tests, codes, string_bytes}
use Rattle.std.specs.Str.{bytes_eq}
use Rattle.std.proofs.lemmas.Iterator.Consumers.{map_from_collect}
use Rattle.std.proofs.lemmas.Iterator.Splits.{YieldsList-from_slice_split}
use Rattle.ndef_cli_make.proofs.Lists.{cut_read}
use Rattle.ndef_cli_make.proofs.parts.parts.Goals as goal

pub returns : goal.returns
returns c =
    cut_read string_bytes (λ word. bytes_eq word (codes "--and")) _ c.args.words.now
    (map_from_collect _ c.collect.ensures.ran (YieldsList-from_slice_split _ _ c.args.words.now c.split.ensures.rest c.split.ensures.done c.split.ensures.closure (λ x r q k. search (rules, tests))))
