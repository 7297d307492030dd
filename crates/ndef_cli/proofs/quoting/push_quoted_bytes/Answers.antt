use Rattle.std.proofs.Common.{rules}
use Rattle.std.proofs.lemmas.List.Sums.{prefix_len-le-length}
use Rattle.ndef_cli.specs.PlainRunLaws.{PlainStays, plain_end, plain_step}
use Rattle.ndef_cli.specs.Quoting.{is_plain_octet, quoted_byte}
use Rattle.ndef_cli.proofs.quoting.push_quoted_bytes.Goals as goal

plain_stays : PlainStays is_plain_octet quoted_byte
plain_stays b h = search (h, rules)

pub split_at-requires : goal.split_at-requires
split_at-requires c = search (prefix_len-le-length is_plain_octet c.loop-byte.rest.now, c.plain_front.ensures, rules)

pub returns-in-empty : goal.returns-in-empty
returns-in-empty c = search (plain_end is_plain_octet quoted_byte plain_stays c.loop-byte.line c.loop-byte.rest.now, c.loop-byte.invariant, c.plain_front.ensures, c.split_at.ensures, rules)

pub loop-byte-preserved : goal.loop-byte-preserved
loop-byte-preserved c = search (plain_step is_plain_octet quoted_byte plain_stays c.loop-byte.line c.loop-byte.rest.now, c.loop-byte.invariant, c.plain_front.ensures, c.split_at.ensures, rules)
