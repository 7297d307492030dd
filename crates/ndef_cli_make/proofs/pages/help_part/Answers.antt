use Rattle.std.proofs.Common.{rules, tests, codes, map, string_bytes}
use Rattle.std.specs.Str.{bytes_eq}
use Rattle.std.proofs.lemmas.Iterator.Search.{find_from_yields_List}
use Rattle.std.proofs.lemmas.Iterator.Splits.{YieldsList-from_slice_split}
use Rattle.ndef_cli_make.specs.Asked.{has_word}
use Rattle.ndef_cli_make.proofs.Lists.{find_read}
use Rattle.ndef_cli_make.proofs.pages.help_part.Goals as goal

pub returns : goal.returns
returns c =
    find_read string_bytes (λ word. bytes_eq word (codes "--and")) (has_word (codes "--help")) c.args.words.now c.find.result
    (find_from_yields_List (λ part. has_word (codes "--help") (map string_bytes part)) _ _ c.find.result c.find.ensures.ran
    (YieldsList-from_slice_split _ (λ word. bytes_eq (string_bytes word) (codes "--and")) c.args.words.now c.split.ensures.rest c.split.ensures.done c.split.ensures.closure (λ x r q k. search (rules, tests)))
    (λ x b q k. search (rules, tests)))
