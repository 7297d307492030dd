use Rattle.std.proofs.Common.{arith, rules}
use Rattle.std.proofs.lemmas.Grind.{common_steps}
use Rattle.ndef_types.proofs.utf16.unmark.Goals as goal

pub returns-in-254-clause-rest : goal.returns-in-254-clause-rest
returns-in-254-clause-rest c = grind (arith, common_steps)

pub returns-in_default-clause-little : goal.returns-in_default-clause-little
returns-in_default-clause-little c = search rules
