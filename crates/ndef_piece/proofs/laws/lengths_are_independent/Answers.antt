use Rattle.ndef_piece.proofs.Boxes.{open_bounds, whole_bounds}
use Rattle.ndef_piece.proofs.laws.lengths_are_independent.Goals as goal

pub returns : goal.returns
returns c = record { fronts = open_bounds; heads = whole_bounds }
