use Rattle.std.proofs.Common.{arith}
use Rattle.ndef_value.specs.SliceLaws.{each_octet}
use Rattle.ndef_lang.proofs.member.has_length.Goals as goal

pub returns : goal.returns
returns c h = (each_octet _ c.type_inv.payload, omega arith)
