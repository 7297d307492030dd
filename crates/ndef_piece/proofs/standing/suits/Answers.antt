use Rattle.std.proofs.Common.{rules}
use Rattle.ndef_piece.proofs.standing.suits.Goals as goal

pub returns-then-is_set-spot-clause-room : goal.returns-then-is_set-spot-clause-room
returns-then-is_set-spot-clause-room c = search rules
