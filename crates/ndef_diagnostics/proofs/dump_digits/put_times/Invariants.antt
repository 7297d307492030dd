use Rattle.std.proofs.Common.{◌≡◌}
use Rattle.std.specs.List.{fold}
use Rattle.ndef_diagnostics.specs.Dumps.{line_digits, times}
use Rattle.ndef_diagnostics.specs.Filled.{put}
use Rattle.ndef_diagnostics.proofs.dump_digits.put_times.Given as goal

abbrev pub invariant-loop-left : goal.invariant-loop-left
invariant-loop-left l =
    fold put (l.spelled, l.out) (times l.left (line_digits l.form l.line)) ≡ fold put (l.fn.before, l.fn.out) (times l.count (line_digits l.form l.line))

abbrev pub decreases-loop-left : goal.decreases-loop-left
decreases-loop-left l = l.left
