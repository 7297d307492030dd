use Rattle.std.proofs.Common.{◌∙◌, ap₂}
use Rattle.ndef_c.proofs.query.wants.Goals as goal

pub returns : goal.returns
returns g c = λ at r. c.is_expected.ensures ∙ ap₂ g.W.Expected.expected (c.tnf_in.ensures _ at r) (c.type_in.ensures at r)
