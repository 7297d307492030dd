use Rattle.ndef_diagnostics.specs.RecordRemarks.{count_id}
use Rattle.ndef_diagnostics.proofs.Counts.{Counted}
use Rattle.ndef_diagnostics.proofs.few.count_id.Given as goal

abbrev pub invariant-loop-item : goal.invariant-loop-item
invariant-loop-item l = Counted (count_id l.id) l.count l.item-iterator l.message.runs
