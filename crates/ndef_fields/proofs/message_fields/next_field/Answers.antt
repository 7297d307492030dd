use Rattle.std.proofs.Common.{rules, ◌≡◌, [], ◌∙◌, ap}
use Rattle.ndef_fields.specs.Walks.{fields_left}
use Rattle.ndef_fields.proofs.StepFields.{next_piece, none_left}
use Rattle.ndef_fields.proofs.message_fields.next_field.Goals as goal

pub returns-in_err-step-in-None-clause-none : goal.returns-in_err-step-in-None-clause-none
returns-in_err-step-in-None-clause-none c =
    let e : fields_left c.args.walk.now c.args.begun.now ≡ [] =
    c.loop-field.invariant.same ∙ none_left c.loop-field.walk c.loop-field.begun c.in-None.ensures.none c.in_err-step-in-None.ensures.none in
    search rules

pub returns-in_err-step-in-None-clause-over : goal.returns-in_err-step-in-None-clause-over
returns-in_err-step-in-None-clause-over c =
    let e : fields_left c.loop-field.walk c.part.new.self ≡ [] =
    ap (fields_left c.loop-field.walk) c.in-None.ensures.still
    ∙ none_left c.loop-field.walk c.loop-field.begun c.in-None.ensures.none c.in_err-step-in-None.ensures.none in
    search rules

pub loop-field-smaller : goal.loop-field-smaller
loop-field-smaller c =
    let o = c.of.ensures in
    (next_piece c.loop-field.walk c.loop-field.begun c.in_ok-step-in-None.step c.in_ok-step-in-None.next c.of.result c.loop-field.invariant.sound c.in-None.ensures.none
    c.in_ok-step-in-None.ensures.next
    (record { at = o.at; depth = o.depth; left = o.left; piece = o.piece; outer = o.outer; stage = o.stage; octets = o.octets })).fewer

pub loop-field-preserved : goal.loop-field-preserved
loop-field-preserved c =
    let o = c.of.ensures in
    let n = next_piece c.loop-field.walk c.loop-field.begun c.in_ok-step-in-None.step c.in_ok-step-in-None.next c.of.result c.loop-field.invariant.sound c.in-None.ensures.none
    c.in_ok-step-in-None.ensures.next
    (record { at = o.at; depth = o.depth; left = o.left; piece = o.piece; outer = o.outer; stage = o.stage; octets = o.octets }) in
    record { same = c.loop-field.invariant.same ∙ n.same; sound = n.sound }
