use Rattle.ndef_piece.proofs.Takes.{conditions_are_exact}
use Rattle.ndef_piece.proofs.laws.conditions_are_exact.Goals as goal

pub returns-clause-exact : goal.returns-clause-exact
returns-clause-exact c = conditions_are_exact
