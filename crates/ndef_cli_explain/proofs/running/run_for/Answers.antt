use Rattle.std.proofs.Common.{◌∷◌, [], rules, subst}
use Rattle.std.specs.Prelude.{codes}
use Rattle.ndef_message.specs.States.{sink_state}
use Rattle.ndef_cli.specs.declared.status.Status.TheVariants.{Clean}
use Rattle.ndef_cli_explain.specs.Running.{TellsAll, course, world}
use Rattle.ndef_cli_explain.proofs.Reports.{no_files}
use Rattle.ndef_cli_explain.proofs.running.run_for.Goals as goal

pub returns-then-is_empty : goal.returns-then-is_empty
returns-then-is_empty g c =
    no_files g.I.Inputs.gives c.args.takes_color c.args.asked.now.choice c.args.asked.now.files.items _ _ _ (search rules)
    (
    subst
    (λ options. TellsAll g.I.Inputs.gives options (codes "-" ∷ []) Clean (course (world c.args.inputs.now (sink_state g.K.Sink c.args.sink.now)) (world c.tell_all.new.inputs (sink_state g.K.Sink c.tell_all.new.sink)) c.tell_all.result))
    c.report_options_of-options.ensures c.tell_all.ensures
    )
