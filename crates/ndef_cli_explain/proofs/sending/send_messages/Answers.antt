use Rattle.std.proofs.Common.{◌∙◌, ap, arith, drop, length, length-drop}
use Rattle.std.proofs.lemmas.List.{drop-drop}
use Rattle.ndef_message.specs.States.{sink_state}
use Rattle.ndef_cli_explain.specs.Forms.{look_values}
use Rattle.ndef_cli_explain.proofs.MessageTexts.{sent_next, sent_short}
use Rattle.ndef_cli_explain.proofs.sending.send_messages.Goals as goal

pub returns-in-Err-send_message : goal.returns-in-Err-send_message
returns-in-Err-send_message g c =
    sent_short (look_values c.args.look.now) c.args.input.now c.loop-at.rest.now c.loop-at.number c.loop-at.at c.in-Ok.reported
    (sink_state g.K.Sink c.args.sink.now) (sink_state g.K.Sink c.loop-at.sink) (sink_state g.K.Sink c.send_message.new.sink) _ c.loop-at.invariant.sent
    (record { rest_is = c.loop-at.invariant.rest; tells = c.in-Ok.ensures.reported }) c.in-Err-send_message.ensures

pub loop-at-preserved : goal.loop-at-preserved
loop-at-preserved g c =
    let i = c.loop-at.invariant in
    let reported = c.in-Ok.reported in
    let s = c.in-Ok.ensures.some in
    let rest = c.loop-at.rest.now in
    let b = c.split_at.ensures.back in
    let size = i.size in
    let numbers = i.numbers in
    let some = s.0 in
    let within = s.1 in
    let n = ap length b ∙ length-drop reported.taken rest in
    record {
      sent = sent_next (look_values c.args.look.now) c.args.input.now rest c.loop-at.number c.loop-at.at reported (sink_state g.K.Sink c.args.sink.now)
          (sink_state g.K.Sink c.loop-at.sink) (sink_state g.K.Sink c.send_message.new.sink) c.in-Ok-send_message.field-0 i.sent (record { rest_is = i.rest; tells = c.in-Ok.ensures.reported }) c.in-Ok-send_message.ensures;
      rest = b ∙ ap (drop reported.taken) i.rest ∙ drop-drop reported.taken c.loop-at.at c.args.input.now;
      size = omega (arith, size, within, n);
      numbers = omega (arith, numbers, some);
      size_is = i.size_is;
      fits = i.fits;
    }
