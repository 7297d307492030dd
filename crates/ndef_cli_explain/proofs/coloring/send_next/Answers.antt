use Rattle.std.proofs.Common.{subst}
use Rattle.ndef_message.specs.States.{sink_state}
use Rattle.ndef_cli.specs.declared.status.Status.TheVariants.{Clean}
use Rattle.ndef_cli_explain.specs.Reporting.{SendsOut}
use Rattle.ndef_cli_explain.proofs.Sent.{fails_early, next_sent}
use Rattle.ndef_cli_explain.proofs.coloring.send_next.Goals as goal

pub returns-in-Ok : goal.returns-in-Ok
returns-in-Ok g c earlier start is =
    next_sent earlier c.args.text.now start (sink_state g.K.Sink c.args.sink.now) (sink_state g.K.Sink c.send_out.new.sink) c.in-Ok.field-0 c.send_out.result
    (subst (λ r. SendsOut earlier Clean start (sink_state g.K.Sink c.args.sink.now) r) c.in-Ok.is is) c.send_out.ensures

pub returns-in-Err : goal.returns-in-Err
returns-in-Err g c earlier start is =
    let s = sink_state g.K.Sink c.args.sink.now in
    fails_early earlier c.args.text.now start s (subst (λ r. SendsOut earlier Clean start s r) c.in-Err.is is)
