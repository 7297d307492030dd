use Rattle.std.proofs.Common.{◌∙◌, sym}
use Rattle.ndef_cli_make.specs.Editing.{has_number, number_of}
use Rattle.ndef_cli_make.proofs.Lists.{any_at, any_not}
use Rattle.ndef_cli_make.proofs.edited.is_named.Goals as goal

pub returns-then-names : goal.returns-then-names
returns-then-names c =
    sym (any_at (has_number c.args.number) number_of c.args.edits.now c.loop-edit.edit-index c.edit-item.result c.loop-edit-test.true c.edit-item.is (sym c.names.ensures ∙ c.if-names.true))

pub loop-edit-preserved : goal.loop-edit-preserved
loop-edit-preserved c =
    any_not (has_number c.args.number) number_of c.args.edits.now c.loop-edit.edit-index c.edit-item.result c.loop-edit-test.true c.edit-item.is (sym c.names.ensures ∙ c.if-names.false) c.loop-edit.invariant
