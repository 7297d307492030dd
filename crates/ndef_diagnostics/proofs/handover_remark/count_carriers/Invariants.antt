use Rattle.ndef_diagnostics.specs.RecordRemarks.{count_carriers}
use Rattle.ndef_diagnostics.proofs.Counts.{Counted}
use Rattle.ndef_diagnostics.proofs.handover_remark.count_carriers.Given as goal

abbrev pub invariant-loop-item : goal.invariant-loop-item
invariant-loop-item l = Counted count_carriers l.count l.item-iterator l.handover.runs
