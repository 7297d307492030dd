use Rattle.std.proofs.Common.{eqb-true}
use Rattle.ndef_lang.proofs.AsciiLemmas.{ascii_word}
use Rattle.ndef_lang.proofs.ascii.are_four.Goals as goal

pub returns : goal.returns
returns c h = ascii_word c.args.a c.args.b c.args.c c.args.d c.from_le_bytes.result c.ranges.a.fits c.ranges.b.fits c.ranges.c.fits c.ranges.d.fits c.from_le_bytes.ensures (eqb-true _ _ h)
