use Rattle.std.proofs.Common.{arith}
use Rattle.std.proofs.lemmas.Grind.{common_steps}
use Rattle.ndef_tool.proofs.showing.push_record_front.Goals as goal

pub returns : goal.returns
returns c = grind (arith, common_steps)
