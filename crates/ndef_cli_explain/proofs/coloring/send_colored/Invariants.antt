use Rattle.std.proofs.Common.{◌≡◌, ◌++◌, ◌∷◌, [], ◌+◌, length}
use Rattle.std.specs.Option.{option_map_or}
use Rattle.ndef_cli.specs.Quoting.{Text}
use Rattle.ndef_cli.specs.declared.status.Status.TheVariants.{Clean}
use Rattle.ndef_message.specs.States.{sink_state}
use Rattle.ndef_cli_explain.specs.Coloring.{colored}
use Rattle.ndef_cli_explain.specs.Lines.{lines_of}
use Rattle.ndef_cli_explain.specs.Reporting.{SendsOut}
use Rattle.ndef_cli_explain.proofs.Colored.{colored_lines}
use Rattle.ndef_cli_explain.proofs.coloring.send_colored.Given as goal

abbrev pub invariant-loop-rest : goal.invariant-loop-rest
invariant-loop-rest g l =
    (done : Text) × SendsOut done Clean (sink_state g.K.Sink l.initial.sink) (sink_state g.K.Sink l.sink) l.sent
    × (done ++ colored_lines (l.line ∷ option_map_or (λ more. lines_of more.now) l.rest []) ≡ colored l.text)

abbrev pub decreases-loop-rest : goal.decreases-loop-rest
decreases-loop-rest g l = option_map_or (λ more. length more.now + 1) l.rest 0
