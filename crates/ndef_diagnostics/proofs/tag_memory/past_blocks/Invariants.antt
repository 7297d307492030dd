use Rattle.std.proofs.Common.{length, ◌-◌}
use Rattle.ndef_diagnostics.specs.TagMemory.{Reaches}
use Rattle.ndef_diagnostics.proofs.tag_memory.past_blocks.Given as goal

abbrev pub invariant-loop-place : goal.invariant-loop-place
invariant-loop-place l = Reaches l.bytes l.start l.place

abbrev pub decreases-loop-place : goal.decreases-loop-place
decreases-loop-place l = length l.bytes - l.place
