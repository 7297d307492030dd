use Rattle.std.proofs.Common.{◌≡◌, None, length, take}
use Rattle.std.specs.List.{find}
use Rattle.ndef_cli_make.specs.Editing.{names}
use Rattle.ndef_cli_make.proofs.edited.take_edit.Given as goal

abbrev pub invariant-loop-at : goal.invariant-loop-at
invariant-loop-at l = (find (names l.number) (take l.at l.edits.items) ≡ None) × (l.edits ≡ l.initial.edits) × (l.at-end ≡ length l.edits.items)
