use Rattle.ndef_diagnostics.specs.RecordRemarks.{count_collisions}
use Rattle.ndef_diagnostics.proofs.Counts.{Counted}
use Rattle.ndef_diagnostics.proofs.handover_remark.count_collisions.Given as goal

abbrev pub invariant-loop-item : goal.invariant-loop-item
invariant-loop-item l = Counted count_collisions l.count l.item-iterator l.handover.runs
