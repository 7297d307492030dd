use Rattle.std.proofs.Common.{length, ◌-◌}
use Rattle.ndef_diagnostics.specs.TagMemory.{HasArea, Reaches}
use Rattle.ndef_diagnostics.proofs.tag_memory.is_area_among.Given as goal

abbrev pub invariant-loop-place : goal.invariant-loop-place
invariant-loop-place l =
    Reaches l.bytes l.start l.place
    × (HasArea l.bytes l.start l.until l.start → HasArea l.bytes l.start l.until l.place)

abbrev pub decreases-loop-place : goal.decreases-loop-place
decreases-loop-place l = length l.bytes - l.place
