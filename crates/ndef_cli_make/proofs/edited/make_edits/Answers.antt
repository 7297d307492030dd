use Rattle.std.proofs.Common.{◌≡◌, ◌∙◌, ◌+◌, ◌++◌, ◌∷◌, [], length, ap, arith, sym, subst, rules, Err, map, take}
use Rattle.std.proofs.lemmas.List.{length-map, length-take-le}
use Rattle.ndef_cli_make.specs.Asked.{asked_part}
use Rattle.ndef_cli_make.specs.Edited.{MakesEdit, MakesEdits}
use Rattle.ndef_cli_make.specs.Editing.{added_by, altered_by, edit_map}
use Rattle.ndef_cli_make.specs.Faults.{fault_at}
use Rattle.ndef_cli_make.specs.Making.{FailsIn}
use Rattle.ndef_cli_make.proofs.Edits.{one_more}
use Rattle.ndef_cli_make.proofs.MadeIn.{in_as_many, in_fails, in_more, in_unkept}
use Rattle.ndef_cli_make.proofs.edited.make_edits.Goals as goal

pub returns-in_err-keep_edit-in-Ok : goal.returns-in_err-keep_edit-in-Ok
returns-in_err-keep_edit-in-Ok g c =
    let fault = c.in_err-keep_edit-in-Ok.field-0.0 in
    let is : c.from_residual.result ≡ Err fault = search rules in
    subst (MakesEdits g.I.Inputs.gives _ _ _ _ _) (sym (is ∙ ap (λ f. Err f) c.in_err-keep_edit-in-Ok.ensures.memory))
    (in_unkept (MakesEdit g.I.Inputs.gives) (edit_map asked_part) c.args.edits.now c.loop-at.at c.index-edits-at.result c.args.inputs.now c.loop-at.inputs c.make_edit.new.inputs
    c.loop-at.invariant.0 c.in-Ok.edit c.loop-at-test.true c.index-edits-at.is c.loop-at.invariant.1 c.in-Ok.ensures)

pub returns-in-Err : goal.returns-in-Err
returns-in-Err g c =
    let fault = c.in-Err.fault in
    let edits = c.args.edits.now in
    let at = c.loop-at.at in
    let items = c.loop-at.invariant.0 in
    let many = in_as_many (MakesEdit g.I.Inputs.gives) (map (edit_map asked_part) (take at edits)) c.args.inputs.now c.loop-at.inputs items c.loop-at.invariant.1 in
    let long : length items + 1 ≡ at + 1 = omega (arith, many, length-map (take at edits) (edit_map asked_part), length-take-le at edits (omega (arith, c.loop-at-test.true))) in
    let e : fault_at (length items + 1) fault ≡ c.at.result = ap (λ n. fault_at n fault) long ∙ sym c.at.ensures in
    subst (λ reported. FailsIn (MakesEdit g.I.Inputs.gives) (map (edit_map asked_part) edits) c.args.inputs.now c.make_edit.new.inputs reported) e
    (in_fails (MakesEdit g.I.Inputs.gives) (edit_map asked_part) edits at c.index-edits-at.result c.args.inputs.now c.loop-at.inputs c.make_edit.new.inputs
    items fault c.loop-at-test.true c.index-edits-at.is c.loop-at.invariant.1 c.in-Err.ensures)

pub loop-at-preserved : goal.loop-at-preserved
loop-at-preserved g c =
    let items = c.loop-at.invariant.0 in
    let edit = c.in-Ok.edit in (
      items ++ edit ∷ [],
      in_more (MakesEdit g.I.Inputs.gives) (edit_map asked_part) c.args.edits.now c.loop-at.at c.index-edits-at.result c.args.inputs.now c.loop-at.inputs c.make_edit.new.inputs
          items edit c.loop-at-test.true c.index-edits-at.is c.loop-at.invariant.1 c.in-Ok.ensures,
      one_more added_by items edit c.args.records.now.items c.loop-at.records.items c.keep_edit.new.records.items c.loop-at.invariant.2 c.in_ok-keep_edit-in-Ok.ensures.records,
      one_more altered_by items edit [] c.loop-at.others.items c.keep_edit.new.others.items c.loop-at.invariant.3 c.in_ok-keep_edit-in-Ok.ensures.others,
    )
