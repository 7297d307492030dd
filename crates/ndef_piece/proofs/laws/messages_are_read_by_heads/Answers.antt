use Rattle.ndef_piece.proofs.Remainders.{rests_are_flat, rests_end, rests_past_heads, rests_within_heads, rests_can_follow}
use Rattle.ndef_piece.proofs.laws.messages_are_read_by_heads.Goals as goal

pub returns : goal.returns
returns c = record { spelling = rests_are_flat; end = rests_end; past = rests_past_heads; within = rests_within_heads; follow = rests_can_follow }
