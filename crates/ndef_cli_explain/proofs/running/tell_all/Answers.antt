use Rattle.std.proofs.Common.{◌+◌, [], drop, get_or, map, subst, sym}
use Rattle.ndef_message.specs.States.{sink_state}
use Rattle.ndef_cli.specs.declared.status.Status.TheVariants.{Clean}
use Rattle.ndef_cli_explain.specs.Running.{world}
use Rattle.ndef_cli_explain.proofs.Reports.{KeepsOn, keeps_failed, keeps_next, names_left}
use Rattle.ndef_cli_explain.proofs.running.tell_all.Goals as goal

pub loop-name-preserved : goal.loop-name-preserved
loop-name-preserved g c =
    let names = map (λ name. name.now) c.args.names.now in
    let name = get_or c.args.names.now c.loop-name.name-index (record { ref_ptr = (0, 0); now = [] }) in
    let middle = world c.read-read.new.self (sink_state g.K.Sink c.tell_next.new.sink) in
    subst (λ st. KeepsOn g.I.Inputs.gives c.args.options.now names (drop (c.loop-name.name-index + 1) names) Clean st (world c.args.inputs.now (sink_state g.K.Sink c.args.sink.now)) middle)
    (sym c.worse-status.ensures)
    (
    keeps_next g.I.Inputs.gives c.args.options.now names (drop c.loop-name.name-index names) (drop (c.loop-name.name-index + 1) names) name.now Clean c.loop-name.status c.in-Ok.reported
    (world c.args.inputs.now (sink_state g.K.Sink c.args.sink.now)) (world c.loop-name.inputs (sink_state g.K.Sink c.loop-name.sink)) middle
    _ c.loop-name.invariant (names_left (λ name. name.now) c.args.names.now c.loop-name.name-index _ c.loop-name-test.true) c.read-read.ensures c.in-Ok.ensures
    )

pub returns-in-Err : goal.returns-in-Err
returns-in-Err g c =
    let names = map (λ name. name.now) c.args.names.now in
    let name = get_or c.args.names.now c.loop-name.name-index (record { ref_ptr = (0, 0); now = [] }) in
    keeps_failed g.I.Inputs.gives c.args.options.now names (drop c.loop-name.name-index names) (drop (c.loop-name.name-index + 1) names) name.now Clean c.loop-name.status c.in-Err.field-0
    (world c.args.inputs.now (sink_state g.K.Sink c.args.sink.now)) (world c.loop-name.inputs (sink_state g.K.Sink c.loop-name.sink))
    (world c.read-read.new.self (sink_state g.K.Sink c.tell_next.new.sink)) _ c.loop-name.invariant
    (names_left (λ name. name.now) c.args.names.now c.loop-name.name-index _ c.loop-name-test.true) c.read-read.ensures c.in-Err.ensures
