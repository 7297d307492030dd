use Rattle.std.proofs.Common.{◌≡◌, ◌∙◌, Err, Ok, subst}
use Rattle.ndef_message.specs.Inputs.{bytes_of}
use Rattle.ndef_message.specs.States.{sink_state}
use Rattle.ndef_cli_explain.specs.Forms.{LookValues}
use Rattle.ndef_cli_explain.specs.Reporting.{SendsBody, SendsShown}
use Rattle.ndef_cli_explain.proofs.InputTexts.{explanation_sent, explanation_short}
use Rattle.ndef_cli_explain.proofs.sending.send_explanation.Goals as goal

pub returns-in-Ok : goal.returns-in-Ok
returns-in-Ok g c =
    let s = sink_state g.K.Sink c.args.sink.now in
    let t = sink_state g.K.Sink c.send_shown.new.sink in
    let u = sink_state g.K.Sink c.send_body.new.sink in
    let octets = bytes_of c.args.octets in
    let heading = c.as_slice.ensures.value ∙ c.in_ok-heading.ensures in
    explanation_sent c.args.options.now c.args.name.now c.as_slice.result.now octets s t u c.in-Ok.field-0 c.send_body.result heading
    (subst (λ (look : LookValues). SendsShown look.in_color (λ x. x ≡ c.as_slice.result.now) s t (Ok c.in-Ok.field-0)) c.look_at-look.ensures c.in-Ok.ensures)
    (subst (λ look. SendsBody look octets t u c.send_body.result) c.look_at-look.ensures c.send_body.ensures)

pub returns-in-Err : goal.returns-in-Err
returns-in-Err g c =
    let s = sink_state g.K.Sink c.args.sink.now in
    let t = sink_state g.K.Sink c.send_shown.new.sink in
    let heading = c.as_slice.ensures.value ∙ c.in_ok-heading.ensures in
    explanation_short c.args.options.now c.args.name.now c.as_slice.result.now (bytes_of c.args.octets) s t c.in-Err.cut heading
    (subst (λ (look : LookValues). SendsShown look.in_color (λ x. x ≡ c.as_slice.result.now) s t (Err c.in-Err.cut)) c.look_at-look.ensures c.in-Err.ensures)
