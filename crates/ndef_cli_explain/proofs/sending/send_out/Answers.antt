use Rattle.std.proofs.Common.{refl}
use Rattle.ndef_message.specs.States.{sink_state}
use Rattle.ndef_cli.specs.OutputLaws.{all_sent, front_sent}
use Rattle.ndef_cli_explain.proofs.sending.send_out.Goals as goal

pub returns-in-Ok : goal.returns-in-Ok
returns-in-Ok g c =
    let sent =
    all_sent (g.K.Sink.has_failed c.args.sink.now) c.args.text.now c.args.status (sink_state g.K.Sink c.args.sink.now) (sink_state g.K.Sink c.send.new.sink)
    c.in-Ok.ensures.sent.0 c.in-Ok.ensures.mark.0 c.in-Ok.ensures.mark.1 c.in-Ok.ensures.silent in
    ((sent.0, c.in-Ok.ensures.mark.0, c.in-Ok.ensures.mark.1), refl)

pub returns-in-Err : goal.returns-in-Err
returns-in-Err g c =
    let sent =
    front_sent (g.K.Sink.has_failed c.args.sink.now) c.args.text.now c.args.status (sink_state g.K.Sink c.args.sink.now) (sink_state g.K.Sink c.send.new.sink) _
    c.in-Err.ensures.sent.0 c.in-Err.ensures.mark c.in-Err.ensures.silent in
    (sent.0, c.in-Err.ensures.mark)
