use Rattle.std.proofs.Common.{◌≡◌, ◌++◌, ◌-◌, ◌≤◌, drop, length, take}
use Rattle.ndef_diagnostics.specs.Dumps.{before_gap}
use Rattle.ndef_diagnostics.proofs.dump_form.before_gap.Given as goal

abbrev pub invariant-loop-count : goal.invariant-loop-count
invariant-loop-count l = (take l.count l.text ++ before_gap (drop l.count l.text) ≡ before_gap l.text) × (l.count ≤ length l.text)

abbrev pub decreases-loop-count : goal.decreases-loop-count
decreases-loop-count l = length l.text - l.count
