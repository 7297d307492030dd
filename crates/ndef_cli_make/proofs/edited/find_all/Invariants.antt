use Rattle.std.proofs.Common.{◌≡◌, None, map, take}
use Rattle.std.specs.List.{find, flat_map}
use Rattle.ndef_cli_make.specs.Asked.{asked_part}
use Rattle.ndef_cli_make.specs.Editing.{edit_map, edit_references}
use Rattle.ndef_cli_make.specs.References.{is_missing}
use Rattle.ndef_cli_make.proofs.edited.find_all.Given as goal

abbrev pub invariant-loop-edit : goal.invariant-loop-edit
invariant-loop-edit l = find (is_missing l.records) (flat_map edit_references (map (edit_map asked_part) (take l.edit-index l.edits))) ≡ None
