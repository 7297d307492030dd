use Rattle.std.proofs.Common.{◌≤◌, ◌∙◌, arith, length, sym, ◌++◌, ap, append_assoc, refl, subst, take}
use Rattle.std.specs.Prelude.{IfSome}
use Rattle.ndef_fields.specs.Reports.{AreFieldsBefore}
use Rattle.ndef_cli_explain.specs.Forms.{style_form}
use Rattle.ndef_cli_explain.specs.Recovery.{IsLater, past}
use Rattle.ndef_cli_explain.specs.Refusals.{goes_on_where, refused_text}
use Rattle.ndef_cli_explain.proofs.RecoverySteps.{past_later}
use Rattle.ndef_cli_explain.proofs.recovery.push_refusal.Goals as goal

pub returns-clause-step : goal.returns-clause-step
returns-clause-step c =
    let form = style_form c.args.style in
    let from = c.args.from in
    let found = c.refused_record-found.result in
    let before = c.fields_of_front-fields.result in
    let said = c.said_of-said.result in
    let front = take c.args.refusal.at c.args.rest.bytes.now in
    let one = refused_text form from front before said in
    let two = goes_on_where form from found.before found.end in
    let a = c.in_ok-push_refused.ensures ∙ ap (λ x. c.args.out.now.text ++ refused_text form from x before said) c.cut-2.ensures.front in (
      one ++ two,
      (
        found,
        c.refused_record-found.ensures.found,
        c.past.ensures ∙ ap (past from found) c.unwrap_or.ensures,
        (before, said, subst (λ x. AreFieldsBefore x before) c.cut.ensures.front c.fields_of_front-fields.ensures.reported, c.said_of-said.ensures, refl),
      ),
      c.in_ok-push_goes_on_where.ensures ∙ ap (λ x. x ++ two) a ∙ append_assoc c.args.out.now.text one two,
    )

pub returns-clause-later : goal.returns-clause-later
returns-clause-later c =
    let from = c.args.from in
    let found = c.refused_record-found.result in
    let size = length c.args.rest.bytes.now in
    let same = c.requires.same in
    let within = c.requires.within in
    let some = c.requires.some in
    let few = c.refused_record-found.ensures.few in
    subst (λ n. IsLater from n size) (sym (c.past.ensures ∙ ap (past from found) c.unwrap_or.ensures))
    (past_later from found size c.requires.counts (omega (arith, same, within, few, some))
    (subst (λ n. IfSome found.end (λ e. e ≤ n)) (sym same) c.refused_record-found.ensures.within) c.refused_record-found.ensures.past)
