use Rattle.std.proofs.Common.{arith}
use Rattle.ndef_fields.proofs.Cuts.{reference_cut}
use Rattle.ndef_fields.proofs.stage.cut_at.Goals as goal

pub returns-else-count-eq0 : goal.returns-else-count-eq0
returns-else-count-eq0 c = rw (c.cut_octet.ensures, c.in-References.is) (reference_cut c.in-References.count (omega (arith, c.if-count-eq0.false)) c.args._name c.args.last c.args.octets.now)
