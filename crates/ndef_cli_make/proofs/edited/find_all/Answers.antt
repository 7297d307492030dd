use Rattle.std.proofs.Common.{◌≡◌, List, Err, map, rules, subst, sym, Ok}
use Rattle.clap.specs.Words.{Text}
use Rattle.ndef_cli_make.specs.Asked.{asked_part}
use Rattle.ndef_cli_make.specs.Editing.{edit_map, edit_references}
use Rattle.ndef_cli_make.specs.References.{AreFound}
use Rattle.ndef_cli_make.proofs.Edits.{references_in}
use Rattle.ndef_cli_make.proofs.Found.{found_whole, none_more, unfound_at}
use Rattle.ndef_cli_make.proofs.edited.find_all.Goals as goal

pub returns-in_err-find_in_edit : goal.returns-in_err-find_in_edit
returns-in_err-find_in_edit c =
    let fault = c.in_err-find_in_edit.field-0.0 in
    let edits = c.args.edits.now in
    let is : c.from_residual.result ≡ Err fault = search rules in
    rw is (subst (λ (references : List Text). AreFound c.args.records.now references (Err fault)) (sym (references_in (map (edit_map asked_part) edits)))
    (unfound_at c.args.records.now edit_references (edit_map asked_part) edits c.loop-edit.edit-index c.edit-item.result fault c.loop-edit-test.true c.edit-item.is c.loop-edit.invariant c.in_err-find_in_edit.ensures))

pub loop-edit-preserved : goal.loop-edit-preserved
loop-edit-preserved c =
    none_more c.args.records.now edit_references (edit_map asked_part) c.args.edits.now c.loop-edit.edit-index c.edit-item.result c.loop-edit-test.true c.edit-item.is c.loop-edit.invariant
    c.in_ok-find_in_edit.ensures

pub returns : goal.returns
returns c =
    subst (λ (references : List Text). AreFound c.args.records.now references (Ok tt)) (sym (references_in (map (edit_map asked_part) c.args.edits.now)))
    (found_whole c.args.records.now edit_references (edit_map asked_part) c.args.edits.now c.loop-edit.edit-index c.loop-edit-test.false c.loop-edit.invariant)
