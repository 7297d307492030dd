use Rattle.ndef_message.specs.States.{sink_state}
use Rattle.ndef_cli_explain.specs.Forms.{look_values}
use Rattle.ndef_cli_explain.proofs.InputTexts.{octets_sent, octets_short}
use Rattle.ndef_cli_explain.proofs.sending.send_octets.Goals as goal

pub returns-in-Ok-send_end : goal.returns-in-Ok-send_end
returns-in-Ok-send_end g c =
    octets_sent (look_values c.args.look.now) c.args.octets.now c.in-Ok.progress (sink_state g.K.Sink c.args.sink.now) (sink_state g.K.Sink c.send_messages.new.sink)
    (sink_state g.K.Sink c.send_end.new.sink) c.in-Ok-send_end.field-0 c.stop_status.result c.in-Ok.ensures c.in-Ok-send_end.ensures c.stop_status.ensures

pub returns-in-Err-send_end : goal.returns-in-Err-send_end
returns-in-Err-send_end g c =
    octets_short (look_values c.args.look.now) c.args.octets.now c.in-Ok.progress (sink_state g.K.Sink c.args.sink.now) (sink_state g.K.Sink c.send_messages.new.sink)
    (sink_state g.K.Sink c.send_end.new.sink) c.in-Err-send_end.cut c.in-Ok.ensures c.in-Err-send_end.ensures
