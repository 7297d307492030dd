use Rattle.std.proofs.Common.{Ok, subst}
use Rattle.ndef_message.specs.States.{sink_state}
use Rattle.ndef_cli_explain.specs.Forms.{look_values}
use Rattle.ndef_cli_explain.specs.Reporting.{SendsBody}
use Rattle.ndef_cli_explain.proofs.sending.send_body.Goals as goal

pub returns-in-Ok : goal.returns-in-Ok
returns-in-Ok g c = rw c.in-Ok.is
    (
    subst (λ x. SendsBody (look_values c.args.look.now) (Ok x) (sink_state g.K.Sink c.args.sink.now) (sink_state g.K.Sink c.send_octets.new.sink) c.send_octets.result)
    c.as_slice.ensures.value c.send_octets.ensures
    )
