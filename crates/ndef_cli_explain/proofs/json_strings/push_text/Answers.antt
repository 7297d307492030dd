use Rattle.std.proofs.Common.{rules}
use Rattle.std.proofs.lemmas.List.Sums.{prefix_len-le-length}
use Rattle.json.specs.Print.{escape_byte}
use Rattle.json.specs.Run.{is_plain}
use Rattle.ndef_cli.specs.PlainRunLaws.{plain_end, plain_step}
use Rattle.ndef_cli_explain.proofs.Escapes.{plain_stays}
use Rattle.ndef_cli_explain.proofs.json_strings.push_text.Goals as goal

pub split_at-requires : goal.split_at-requires
split_at-requires c = search (prefix_len-le-length is_plain c.loop-byte.rest.now, c.plain_front.ensures, rules)

pub returns-in-empty : goal.returns-in-empty
returns-in-empty c = search (plain_end is_plain escape_byte plain_stays c.loop-byte.line c.loop-byte.rest.now, c.loop-byte.invariant, c.plain_front.ensures, c.split_at.ensures, rules)

pub loop-byte-preserved : goal.loop-byte-preserved
loop-byte-preserved c = search (plain_step is_plain escape_byte plain_stays c.loop-byte.line c.loop-byte.rest.now, c.loop-byte.invariant, c.plain_front.ensures, c.split_at.ensures, rules)
