use Rattle.std.proofs.Common.{◌≡◌, ◌-◌, false, length}
use Rattle.ndef_message.specs.Machine.Accepted.{AreTakenRecords}
use Rattle.ndef_message.proofs.accepted.accepted_records.Given as goal

abbrev pub invariant-loop-at : goal.invariant-loop-at
invariant-loop-at g l = record {
  records : AreTakenRecords g.L.RecordLanguage.payloads l.limits l.fn.place l.bytes l.at l.found false;
  out : l.fn.place.inside ≡ false → l.found.inside ≡ false;
}

abbrev pub decreases-loop-at : goal.decreases-loop-at
decreases-loop-at g l = length l.bytes - l.at
