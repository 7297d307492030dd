use Rattle.ndef_piece.proofs.Wire.{begins}
use Rattle.ndef_piece.proofs.laws.pieces_begin_by_size.Goals as goal

pub returns : goal.returns
returns c = begins
