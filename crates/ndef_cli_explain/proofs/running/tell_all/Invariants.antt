use Rattle.std.proofs.Common.{drop, map}
use Rattle.ndef_message.specs.States.{sink_state}
use Rattle.ndef_cli.specs.declared.status.Status.TheVariants.{Clean}
use Rattle.ndef_cli_explain.specs.Running.{world}
use Rattle.ndef_cli_explain.proofs.Reports.{KeepsOn}
use Rattle.ndef_cli_explain.proofs.running.tell_all.Given as goal

abbrev pub invariant-loop-name : goal.invariant-loop-name
invariant-loop-name g l =
    KeepsOn g.I.Inputs.gives l.options (map (λ name. name.now) l.names) (drop l.name-index (map (λ name. name.now) l.names)) Clean l.status
    (world l.initial.inputs (sink_state g.K.Sink l.initial.sink)) (world l.inputs (sink_state g.K.Sink l.sink))
