use Rattle.std.proofs.Common.{◌≡◌, ◌<◌, ◌≤◌, true, false, ℕ, length}
use Rattle.ndef_format.specs.Messages.{Item}
use Rattle.ndef_piece.specs.Walk.{inside}
use Rattle.ndef_message.specs.Machine.Accepted.{RunGoesOn}
use Rattle.ndef_message.specs.Machine.State.{numbers}
use Rattle.ndef_message.proofs.accepted.accepted_chunks.Given as goal

abbrev pub invariant-loop-piece : goal.invariant-loop-piece
invariant-loop-piece l = record {
  shorter : length l.rest ≤ length l.bytes;
  going_on : l.found.inside ≡ true;
  later : length l.rest < length l.bytes → l.found.first ≡ false;
  goes_on : (records pieces room : ℕ) (m : Item) → l.fn.place ≡ numbers (inside records pieces room m) → RunGoesOn l.limits (inside records pieces room m) m l.found l.bytes l.rest;
}

abbrev pub decreases-loop-piece : goal.decreases-loop-piece
decreases-loop-piece l = length l.rest
