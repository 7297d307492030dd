use Rattle.ndef_fields.proofs.StepFields.{payload_left}
use Rattle.ndef_fields.proofs.message_fields.Fields.of_payload.Goals as goal

pub invariant_of-result : goal.invariant_of-result
invariant_of-result c =
    let w = c.of_payload.ensures in
    let s = c.of_payload-2.ensures in
    (payload_left c.of_payload.result c.of_payload-2.result c.args.kind c.args.payload.now (record { at = s.at; depth = s.depth; left = s.left; inside = s.inside }) w.inner w.outer w.table w.at w.places).sound

pub returns : goal.returns
returns c =
    let w = c.of_payload.ensures in
    let s = c.of_payload-2.ensures in
    (payload_left c.of_payload.result c.of_payload-2.result c.args.kind c.args.payload.now (record { at = s.at; depth = s.depth; left = s.left; inside = s.inside }) w.inner w.outer w.table w.at w.places).left_is
