use Rattle.ndef_message.specs.States.{sink_state}
use Rattle.ndef_cli_explain.proofs.Colored.{last_line, next_line}
use Rattle.ndef_cli_explain.proofs.coloring.send_colored.Goals as goal

pub loop-rest-preserved : goal.loop-rest-preserved
loop-rest-preserved g c =
    let (done, sent, same) = c.loop-rest.invariant in
    next_line done c.loop-rest.line.now c.loop-rest.rest c.in-Some.more c.cut_at-in-Some.result.0.now c.cut_at-in-Some.result.1 c.args.text.now
    (sink_state g.K.Sink c.args.sink.now) (sink_state g.K.Sink c.loop-rest.sink) (sink_state g.K.Sink c.send_line-shown.new.sink) (sink_state g.K.Sink c.send_next-sent.new.sink)
    c.loop-rest.sent c.send_line-shown.result c.send_next-sent.result c.in-Some.is c.cut_at-in-Some.ensures.split sent same c.send_line-shown.ensures c.send_next-sent.ensures

pub returns : goal.returns
returns g c =
    let (done, sent, same) = c.loop-rest.invariant in
    last_line done c.loop-rest.line.now c.loop-rest.rest c.args.text.now (sink_state g.K.Sink c.args.sink.now) (sink_state g.K.Sink c.loop-rest.sink)
    (sink_state g.K.Sink c.send_line.new.sink) c.loop-rest.sent c.send_line.result c.in_default.is sent same c.send_line.ensures
