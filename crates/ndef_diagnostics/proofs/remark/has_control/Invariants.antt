use Rattle.std.proofs.Common.{◌≡◌, drop}
use Rattle.ndef_diagnostics.specs.Remarks.{has_control}
use Rattle.ndef_diagnostics.proofs.remark.has_control.Given as goal

abbrev pub invariant-loop-octet : goal.invariant-loop-octet
invariant-loop-octet l = has_control l.octets ≡ has_control (drop l.octet-index l.octets)
