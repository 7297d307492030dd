use Rattle.std.proofs.Common.{◌∙◌, refl, rules, subst, take}
use Rattle.ndef_fields.specs.Reports.{AreFieldsBefore}
use Rattle.ndef_cli_explain.specs.Forms.{style_form}
use Rattle.ndef_cli_explain.specs.Recovery.{message_at}
use Rattle.ndef_cli_explain.specs.Refusals.{IsSaid, refused_text}
use Rattle.ndef_cli_explain.proofs.explaining.push_first_refusal.Goals as goal

pub returns : goal.returns
returns c =
    let form = style_form c.args.look.now.style in
    let before = c.fields_of_front-fields.result in
    let said = c.said_of-said.result in
    let bytes = c.args.progress.now.rest.now in
    let front = c.cut.ensures.front in (
      refused_text form (message_at c.args.progress.now.number c.args.progress.now.at 0) (take c.args.refusal.at bytes) before said,
      (
        before,
        c.hint_for-hint.result,
        said,
        subst (λ x. AreFieldsBefore x before) front c.fields_of_front-fields.ensures.reported,
        c.hint_for-hint.ensures.hint,
        subst (λ advice. IsSaid bytes bytes c.args.refusal advice said) c.in_ok-advice.ensures c.said_of-said.ensures,
        refl,
      ),
      c.in_ok-push_refused.ensures ∙ search (front, c.message_at-from.ensures, rules),
    )
