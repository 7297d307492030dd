use Rattle.std.proofs.Common.{◌≡◌, ◌≤◌, ◌+◌, ◌++◌, ℕ, List, drop, length, take}
use Rattle.std.specs.List.{find}
use Rattle.ndef_format.specs.Messages.{Item}
use Rattle.ndef_cli_make.specs.Editing.{kept_from, names}
use Rattle.ndef_cli_make.proofs.edited.put_all.Given as goal

abbrev pub invariant-loop-left : goal.invariant-loop-left
invariant-loop-left l = (l.left ≤ l.count) × ((old added : List Item) → l.initial.records.items ≡ old ++ added → length old ≡ l.count
    → l.records.items ≡ take l.left old ++ (kept_from (l.left + 1) l.initial.edits.items (drop l.left old) ++ added))
    × ((number : ℕ) → number ≤ l.left → find (names number) l.edits.items ≡ find (names number) l.initial.edits.items)

abbrev pub decreases-loop-left : goal.decreases-loop-left
decreases-loop-left l = l.left
