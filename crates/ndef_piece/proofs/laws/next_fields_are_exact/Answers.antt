use Rattle.ndef_piece.proofs.Fields.{one_field}
use Rattle.ndef_piece.proofs.WalksCounted.{pieces_go_on}
use Rattle.ndef_piece.proofs.laws.next_fields_are_exact.Goals as goal

pub returns : goal.returns
returns c = record { one = one_field; on = pieces_go_on }
