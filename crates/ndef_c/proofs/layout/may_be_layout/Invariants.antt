use Rattle.std.proofs.Common.{◌↔◌, length}
use Rattle.ndef_c.specs.Layouts.{AreFields}
use Rattle.ndef_c.proofs.layout.may_be_layout.Given as goal

abbrev pub invariant-loop-left : goal.invariant-loop-left
invariant-loop-left l = AreFields l.fields ↔ AreFields l.left

abbrev pub decreases-loop-left : goal.decreases-loop-left
decreases-loop-left l = length l.left
