use Rattle.std.proofs.Common.{◌++◌}
use Rattle.std.specs.Prelude.{codes}
use Rattle.ndef_message.specs.States.{sink_state}
use Rattle.ndef_cli_explain.proofs.Sent.{next_two}
use Rattle.ndef_cli_explain.proofs.coloring.send_rendered.Goals as goal

pub returns : goal.returns
returns g c =
    let s = sink_state g.K.Sink c.args.sink.now in
    let t = sink_state g.K.Sink c.send_next-opened.new.sink in
    let u = sink_state g.K.Sink c.send_next-written.new.sink in
    let v = sink_state g.K.Sink c.send_next.new.sink in
    let opening = c.args.opening.now in
    let text = c.args.text.now in
    let opened = c.send_next-opened.result in
    let written = c.send_next-written.result in
    next_two c.args.sent written c.send_next.result (opening ++ text) (codes "\u{1b}[0m") s u v
    (next_two c.args.sent opened written opening text s t u c.send_next-opened.ensures c.send_next-written.ensures) c.send_next.ensures
