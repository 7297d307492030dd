use Rattle.std.proofs.Common.{arith}
use Rattle.std.proofs.lemmas.Grind.{common_steps}
use Rattle.ndef_value.proofs.name.Name.extend.Goals as goal

pub returns-in-len1-clause-ok : goal.returns-in-len1-clause-ok
returns-in-len1-clause-ok c = grind (arith, common_steps)
