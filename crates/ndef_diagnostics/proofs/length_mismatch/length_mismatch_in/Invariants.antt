use Rattle.std.proofs.Common.{◌≡◌, length}
use Rattle.ndef_diagnostics.specs.LengthMismatches.{length_mismatch_in}
use Rattle.ndef_diagnostics.proofs.length_mismatch.length_mismatch_in.Given as goal

abbrev pub invariant-loop-rest : goal.invariant-loop-rest
invariant-loop-rest l = length_mismatch_in l.leaf l.left l.rest ≡ length_mismatch_in l.fn.leaf l.fn.given l.fn.octets

abbrev pub decreases-loop-rest : goal.decreases-loop-rest
decreases-loop-rest l = length l.rest
