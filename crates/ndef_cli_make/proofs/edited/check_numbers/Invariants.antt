use Rattle.std.proofs.Common.{◌≡◌, ◌<◌, ℕ, None, map}
use Rattle.ndef_cli_make.specs.Editing.{usage_error_at, number_of}
use Rattle.ndef_cli_make.proofs.edited.check_numbers.Given as goal

abbrev pub invariant-loop-at : goal.invariant-loop-at
invariant-loop-at l = (before : ℕ) → before < l.at → usage_error_at l.count (map number_of l.edits) before ≡ None
