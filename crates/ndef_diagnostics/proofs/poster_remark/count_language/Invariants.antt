use Rattle.ndef_diagnostics.specs.RecordRemarks.{count_language}
use Rattle.ndef_diagnostics.proofs.Counts.{Counted}
use Rattle.ndef_diagnostics.proofs.poster_remark.count_language.Given as goal

abbrev pub invariant-loop-item : goal.invariant-loop-item
invariant-loop-item l = Counted (count_language l.language) l.count l.item-iterator l.poster.runs
