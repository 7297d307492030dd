use Rattle.std.proofs.Common.{◌∙◌, ◌++◌, ap, ap₂, subst, sym}
use Rattle.std.specs.Prelude.{codes}
use Rattle.ndef_message.specs.States.{sink_state}
use Rattle.ndef_cli_explain.specs.Coloring.{colored_in, rendered}
use Rattle.ndef_cli_explain.specs.Reporting.{SendsNext}
use Rattle.ndef_cli_explain.proofs.Sent.{next_two}
use Rattle.ndef_cli_explain.proofs.coloring.send_line.Goals as goal

pub returns-in-Bold : goal.returns-in-Bold
returns-in-Bold g c =
    subst (λ i. SendsNext c.args.sent (colored_in i c.args.line.now) (sink_state g.K.Sink c.args.sink.now) (sink_state g.K.Sink c.send_rendered.new.sink) c.send_rendered.result)
    (sym c.in-Bold.is ∙ c.ink_of.ensures) c.send_rendered.ensures

pub returns-in-Red : goal.returns-in-Red
returns-in-Red g c =
    subst (λ i. SendsNext c.args.sent (colored_in i c.args.line.now) (sink_state g.K.Sink c.args.sink.now) (sink_state g.K.Sink c.send_rendered-in-Red.new.sink) c.send_rendered-in-Red.result)
    (sym c.in-Red.is ∙ c.ink_of.ensures) c.send_rendered-in-Red.ensures

pub returns-in-FaintPlace : goal.returns-in-FaintPlace
returns-in-FaintPlace g c =
    let s = sink_state g.K.Sink c.args.sink.now in
    let t = sink_state g.K.Sink c.send_rendered-placed.new.sink in
    let u = sink_state g.K.Sink c.send_next.new.sink in
    let place = c.cut.result.0.now in
    let rest = c.cut.result.1.now in
    let opening = codes "\u{1b}[2m" in
    subst (λ text. SendsNext c.args.sent text s u c.send_next.result)
    (ap₂ (λ a b. rendered opening a ++ b) c.cut.ensures.front c.cut.ensures.back ∙ ap (λ i. colored_in i c.args.line.now) (sym c.in-FaintPlace.is ∙ c.ink_of.ensures))
    (next_two c.args.sent c.send_rendered-placed.result c.send_next.result (rendered opening place) rest s t u c.send_rendered-placed.ensures c.send_next.ensures)

pub returns-in-Plain : goal.returns-in-Plain
returns-in-Plain g c =
    subst (λ i. SendsNext c.args.sent (colored_in i c.args.line.now) (sink_state g.K.Sink c.args.sink.now) (sink_state g.K.Sink c.send_next-in-Plain.new.sink) c.send_next-in-Plain.result)
    (sym c.in-Plain.is ∙ c.ink_of.ensures) c.send_next-in-Plain.ensures
