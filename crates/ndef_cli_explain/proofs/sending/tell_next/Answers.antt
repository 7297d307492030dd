use Rattle.std.proofs.Common.{Err, inl, subst}
use Rattle.ndef_message.specs.Inputs.{bytes_of}
use Rattle.ndef_message.specs.States.{sink_state}
use Rattle.ndef_cli.specs.declared.status.Status.TheVariants.{Fault}
use Rattle.ndef_cli_explain.specs.Reporting.{SendsInput, SendsOut}
use Rattle.ndef_cli_explain.proofs.InputTexts.{next_memory}
use Rattle.ndef_cli_explain.proofs.sending.tell_next.Goals as goal

pub returns-in-Ok : goal.returns-in-Ok
returns-in-Ok g c = (c.in-Ok.ensures.0, inl c.in-Ok.ensures.1, c.in-Ok.ensures.2)

pub returns-in-Memory : goal.returns-in-Memory
returns-in-Memory g c =
    let t = sink_state g.K.Sink c.send_input.new.sink in
    let u = sink_state g.K.Sink c.send_out.new.sink in
    next_memory c.args.options.now c.args.name.now (bytes_of c.args.read) (sink_state g.K.Sink c.args.sink.now) t u c.send_out.result
    (subst (λ cut. SendsInput c.args.options.now c.args.name.now (bytes_of c.args.read) (sink_state g.K.Sink c.args.sink.now) t (Err cut)) c.in-Memory.is c.in-Err.ensures)
    (subst (λ text. SendsOut text Fault t u c.send_out.result) c.memory_text.ensures c.send_out.ensures)
