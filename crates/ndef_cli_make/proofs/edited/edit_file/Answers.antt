use Rattle.std.proofs.Common.{◌∙◌, map, sym}
use Rattle.std.specs.Prelude.{option_map}
use Rattle.ndef_cli_make.specs.Asked.{asked_part}
use Rattle.ndef_cli_make.specs.Editing.{edit_map}
use Rattle.ndef_cli_make.proofs.EditedMessages.{file_edited}
use Rattle.ndef_cli_make.proofs.edited.edit_file.Goals as goal

pub returns : goal.returns
returns g c =
    file_edited g.I.Inputs.gives (record { file = option_map (λ name. name.now) c.args.file; edits = map (edit_map asked_part) c.args.edits.now }) c.args.writing _ _ _ c.in_ok-old.old _
    (sym c.has_many_readers.ensures ∙ c.if-has_many_readers.false) c.in_ok-old.ensures.value c.edit_message.ensures
