use Rattle.std.proofs.Common.{◌≡◌, ℕ, ◌<◌, false}
use Rattle.ndef_diagnostics.specs.TagMemory.{is_container}
use Rattle.ndef_diagnostics.proofs.tag_memory.first_container.Given as goal

abbrev pub invariant-loop-place : goal.invariant-loop-place
invariant-loop-place l = (other : ℕ) → other < l.place → is_container l.bytes other ≡ false
