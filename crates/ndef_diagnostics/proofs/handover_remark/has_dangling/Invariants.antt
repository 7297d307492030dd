use Rattle.std.proofs.Common.{◌≡◌}
use Rattle.ndef_diagnostics.specs.RecordRemarks.{has_dangling}
use Rattle.ndef_diagnostics.proofs.handover_remark.has_dangling.Given as goal

abbrev pub invariant-loop-left : goal.invariant-loop-left
invariant-loop-left l = has_dangling l.left l.rest l.message.runs ≡ has_dangling l.count l.octets l.message.runs

abbrev pub decreases-loop-left : goal.decreases-loop-left
decreases-loop-left l = l.left
