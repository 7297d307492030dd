use Rattle.std.proofs.Common.{◌≡◌, ◌≤◌, ◌-◌, length}
use Rattle.ndef_message.specs.Machine.Checkers.{CheckerReached}
use Rattle.ndef_message.proofs.Feeding.{Sofar}
use Rattle.ndef_message.proofs.checker.Checker.feed_tried.Given as goal

abbrev pub invariant-loop-at : goal.invariant-loop-at
invariant-loop-at g l =
    let s = l.self in
    let i = l.initial.self in
    record {
      within : l.at ≤ length l.bytes;
      limits : s.limits ≡ i.limits;
      sofar : Sofar (CheckerReached i) (CheckerReached s) l.bytes l.at;
    }

abbrev pub decreases-loop-at : goal.decreases-loop-at
decreases-loop-at g l = length l.bytes - l.at
