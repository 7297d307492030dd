use Rattle.std.proofs.Common.{◌≡◌, ◌++◌, List, map, take}
use Rattle.std.specs.List.{flat_map}
use Rattle.ndef_format.specs.Messages.{Item}
use Rattle.ndef_cli_make.specs.Asked.{asked_part}
use Rattle.ndef_cli_make.specs.Edited.{MakesEdit}
use Rattle.ndef_cli_make.specs.Editing.{added_by, altered_by, edit_map}
use Rattle.ndef_cli_make.specs.Making.{AreMadeIn}
use Rattle.ndef_cli_make.specs.declared.editing.Edit.{Edit}
use Rattle.ndef_cli_make.proofs.edited.make_edits.Given as goal

abbrev pub invariant-loop-at : goal.invariant-loop-at
invariant-loop-at g l = (items : List (Edit Item)) × AreMadeIn (MakesEdit g.I.Inputs.gives) (map (edit_map asked_part) (take l.at l.edits)) l.initial.inputs l.inputs items
    × (l.records.items ≡ l.initial.records.items ++ flat_map added_by items) × (l.others.items ≡ flat_map altered_by items)
