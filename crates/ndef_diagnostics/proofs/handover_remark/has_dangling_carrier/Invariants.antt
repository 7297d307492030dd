use Rattle.std.proofs.Common.{◌≡◌}
use Rattle.ndef_diagnostics.specs.RecordRemarks.{has_dangling_carrier}
use Rattle.ndef_diagnostics.proofs.handover_remark.has_dangling_carrier.Given as goal

abbrev pub invariant-loop-item : goal.invariant-loop-item
invariant-loop-item l = has_dangling_carrier l.item-iterator l.message.runs ≡ has_dangling_carrier l.handover.runs l.message.runs
