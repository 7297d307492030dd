use Rattle.std.proofs.Common.{◌≡◌, ◌∷◌, [], ◌+◌, ◌≤◌, length}
use Rattle.std.specs.List.{fold}
use Rattle.std.specs.Option.{option_map_or}
use Rattle.ndef_diagnostics.specs.Dumps.{digits_after, lines_of}
use Rattle.ndef_diagnostics.specs.Filled.{nothing, put}
use Rattle.ndef_diagnostics.proofs.dump.put_lines.Given as goal

abbrev pub invariant-loop-spelled : goal.invariant-loop-spelled
invariant-loop-spelled l = record {
  same : fold put (l.spelled, l.out) (digits_after l.form l.before (l.line ∷ option_map_or (λ more. lines_of more.now) l.rest []))
      ≡ fold put (nothing, l.fn.out) (digits_after l.form [] (lines_of l.text));
  count : l.spelled.count ≤ 33554433;
  short : l.spelled.count + length (digits_after l.form l.before (l.line ∷ option_map_or (λ more. lines_of more.now) l.rest []))
      ≤ length (digits_after l.form [] (lines_of l.text));
}

abbrev pub decreases-loop-spelled : goal.decreases-loop-spelled
decreases-loop-spelled l = option_map_or (λ more. length more.now + 1) l.rest 0
