use Rattle.std.proofs.Common.{arith}
use Rattle.std.proofs.lemmas.Grind.{common_steps}
use Rattle.ndef_piece.proofs.whole.WholePiece.goes_on_at.Goals as goal

pub returns-then-not-is_set : goal.returns-then-not-is_set
returns-then-not-is_set c = grind (arith, common_steps)
