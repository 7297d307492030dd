use Rattle.std.proofs.Common.{◌≡◌, map, take}
use Rattle.ndef_cli_make.specs.Asked.{asked_part}
use Rattle.ndef_cli_make.specs.Editing.{edit_map, flags_in}
use Rattle.ndef_cli_make.proofs.edited.flags_in.Given as goal

abbrev pub invariant-loop-edit : goal.invariant-loop-edit
invariant-loop-edit l = l.flags ≡ flags_in (map (edit_map asked_part) (take l.edit-index l.edits))
