use Rattle.std.proofs.Common.{◌≡◌, take}
use Rattle.std.specs.List.{fold}
use Rattle.ndef_diagnostics.specs.Filled.{put}
use Rattle.ndef_diagnostics.proofs.dump_digits.put_digits.Given as goal

abbrev pub invariant-loop-digit : goal.invariant-loop-digit
invariant-loop-digit l = (l.spelled, l.out) ≡ fold put (l.fn.before, l.fn.out) (take l.digit-index l.digits)
