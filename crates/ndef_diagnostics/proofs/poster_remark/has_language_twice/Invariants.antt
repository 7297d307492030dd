use Rattle.std.proofs.Common.{◌≡◌}
use Rattle.ndef_diagnostics.specs.RecordRemarks.{has_language_twice}
use Rattle.ndef_diagnostics.proofs.poster_remark.has_language_twice.Given as goal

abbrev pub invariant-loop-item : goal.invariant-loop-item
invariant-loop-item l = has_language_twice l.item-iterator l.poster.runs ≡ has_language_twice l.poster.runs l.poster.runs
