use Rattle.std.proofs.Common.{◌≡◌, ◌≤◌, true, ℕ, length}
use Rattle.ndef_format.specs.Messages.{Item}
use Rattle.ndef_piece.specs.Walk.{inside}
use Rattle.ndef_message.specs.Machine.Accepted.{RunGoesOn}
use Rattle.ndef_message.specs.Machine.State.{numbers}
use Rattle.ndef_message.proofs.accepted.accepted_run.Given as goal

abbrev pub invariant-loop : goal.invariant-loop
invariant-loop l = record {
  shorter : length l.rest ≤ length l.bytes;
  going_on : l.at.inside ≡ true;
  goes_on : (records pieces room : ℕ) (m : Item) → l.fn.place ≡ numbers (inside records pieces room m) → RunGoesOn l.limits (inside records pieces room m) m l.at l.bytes l.rest;
}
