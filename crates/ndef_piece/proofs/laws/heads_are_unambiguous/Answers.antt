use Rattle.ndef_piece.proofs.Apart.{heads_are_unambiguous, headers_tell, one_answer}
use Rattle.ndef_piece.proofs.Sizes.{heads_have_sizes}
use Rattle.ndef_piece.proofs.laws.heads_are_unambiguous.Goals as goal

pub returns : goal.returns
returns c = record { apart = heads_are_unambiguous; sizes = heads_have_sizes; header = headers_tell; one_answer = one_answer }
