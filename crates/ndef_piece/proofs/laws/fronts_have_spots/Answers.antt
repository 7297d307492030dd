use Rattle.ndef_piece.proofs.Fronts.{fronts_have_spots}
use Rattle.ndef_piece.proofs.laws.fronts_have_spots.Goals as goal

pub returns : goal.returns
returns c = fronts_have_spots
