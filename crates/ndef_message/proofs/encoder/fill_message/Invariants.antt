use Rattle.std.proofs.Common.{◌≡◌, ℕ, ◌+◌, ◌-◌, List, ◌++◌, length}
use Rattle.ndef_message.specs.Machine.Encoding.{IsSpot, message_left}
use Rattle.ndef_message.specs.Machine.Stepping.{PutsAt}
use Rattle.ndef_message.proofs.encoder.fill_message.Given as goal

abbrev pub invariant-records : goal.invariant-records
invariant-records l = record {
  text : List ℕ;
  puts : PutsAt 0 text l.initial.buffer l.buffer l.end;
  is : IsSpot l.form l.size l.message l.reached;
  left : message_left l.form l.size l.message l.fn.spot ≡ text ++ message_left l.form l.size l.message l.reached;
}

abbrev pub decreases-records : goal.decreases-records
decreases-records l = (length l.buffer - l.end) + (length l.message - l.reached.index)
