use Rattle.std.proofs.Common.{◌≡◌, length}
use Rattle.ndef_diagnostics.specs.TextRemarks.{is_swapped}
use Rattle.ndef_diagnostics.proofs.text_remark.is_swapped.Given as goal

abbrev pub invariant-loop-rest : goal.invariant-loop-rest
invariant-loop-rest l = is_swapped l.octets ≡ is_swapped l.rest

abbrev pub decreases-loop-rest : goal.decreases-loop-rest
decreases-loop-rest l = length l.rest
