use Rattle.std.proofs.Common.{ℕ, ◌<◌, ◌≤◌, drop}
use Rattle.ndef_diagnostics.specs.Hints.{BeginsWithMessage}
use Rattle.ndef_diagnostics.proofs.hint.message_near.Given as goal

abbrev pub invariant-loop-place : goal.invariant-loop-place
invariant-loop-place l = (k : ℕ) → 1 ≤ k → k < l.place → ¬ BeginsWithMessage l.limits (drop k l.bytes)
