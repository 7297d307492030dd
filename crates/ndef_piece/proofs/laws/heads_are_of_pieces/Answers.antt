use Rattle.ndef_piece.proofs.PieceHeads.{heads_of_pieces, pieces_of_heads, heads_of_bytes, lengths_of_pieces}
use Rattle.ndef_piece.proofs.laws.heads_are_of_pieces.Goals as goal

pub returns : goal.returns
returns c = record { to_heads = heads_of_pieces; to_pieces = pieces_of_heads; bytes = heads_of_bytes; lengths = lengths_of_pieces }
