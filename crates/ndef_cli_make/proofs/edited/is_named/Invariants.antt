use Rattle.std.proofs.Common.{◌≡◌, false, map, take}
use Rattle.std.specs.List.{list_any}
use Rattle.ndef_cli_make.specs.Editing.{has_number, number_of}
use Rattle.ndef_cli_make.proofs.edited.is_named.Given as goal

abbrev pub invariant-loop-edit : goal.invariant-loop-edit
invariant-loop-edit l = list_any (has_number l.number) (take l.edit-index (map number_of l.edits)) ≡ false
