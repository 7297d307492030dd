use Rattle.std.proofs.Common.{subst, sym}
use Rattle.ndef_message.specs.Inputs.{bytes_of}
use Rattle.ndef_message.specs.States.{sink_state}
use Rattle.ndef_cli_explain.specs.Reporting.{IsWanted}
use Rattle.ndef_cli_explain.proofs.InputTexts.{input_explained, input_raw}
use Rattle.ndef_cli_explain.proofs.sending.send_input.Goals as goal

pub returns-in-Explanation : goal.returns-in-Explanation
returns-in-Explanation g c =
    input_explained c.args.options.now c.args.name.now (bytes_of c.args.read) (bytes_of c.octets_of-octets.result) (sink_state g.K.Sink c.args.sink.now)
    (sink_state g.K.Sink c.send_explanation.new.sink) c.send_explanation.result c.in-Explanation.is c.octets_of-octets.ensures.octets c.send_explanation.ensures

pub returns-in-Octets : goal.returns-in-Octets
returns-in-Octets g c =
    let raw = c.raw_octets.result in
    let octets = bytes_of c.octets_of-octets.result in
    input_raw c.args.options.now c.args.name.now (bytes_of c.args.read) octets raw (sink_state g.K.Sink c.args.sink.now) (sink_state g.K.Sink c.send_raw.new.sink) c.send_raw.result
    c.octets_of-octets.ensures.octets (subst (λ w. IsWanted w c.args.options.now c.args.name.now octets raw.text raw.status) (sym c.in-Octets.is) c.raw_octets.ensures)
    c.send_raw.ensures

pub returns-in_ok-raw_payload-in-Payload : goal.returns-in_ok-raw_payload-in-Payload
returns-in_ok-raw_payload-in-Payload g c =
    let raw = c.in_ok-raw_payload-in-Payload.field-0 in
    let octets = bytes_of c.octets_of-octets.result in
    input_raw c.args.options.now c.args.name.now (bytes_of c.args.read) octets raw (sink_state g.K.Sink c.args.sink.now) (sink_state g.K.Sink c.send_raw-in-Payload.new.sink)
    c.send_raw-in-Payload.result c.octets_of-octets.ensures.octets
    (subst (λ w. IsWanted w c.args.options.now c.args.name.now octets raw.text raw.status) (sym c.in-Payload.is) c.in_ok-raw_payload-in-Payload.ensures)
    c.send_raw-in-Payload.ensures
