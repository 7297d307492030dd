use Rattle.std.proofs.Common.{refl, arith}
use Rattle.ndef_fields.proofs.StepFields.{head_is_part, head_room, inside_room}
use Rattle.ndef_fields.proofs.step_fields.StepFields.part.Goals as goal

pub take-requires : goal.take-requires
take-requires c =
    let some = c.if-self-gt0.true in
    head_room c.args.self.now _ c.head_part-name.result.1.now (omega (arith, some)) refl c.head_part-name.ensures.octets c.requires

pub returns-then-self-gt0-clause-next : goal.returns-then-self-gt0-clause-next
returns-then-self-gt0-clause-next c =
    let some = c.if-self-gt0.true in
    head_is_part c.args.self.now c.take.new.self c.take.result c.head_part-name.result.0 _ c.head_part-name.result.1.now (omega (arith, some)) refl c.head_part-name.ensures.name
    c.head_part-name.ensures.octets c.take.ensures.field c.take.ensures.after

pub take-requires-2 : goal.take-requires-2
take-requires-2 c =
    let none = c.if-self-gt0.false in
    inside_room c.args.self.now c.in_ok-name.name c.in_ok-name.length c.in_ok-name.inside (omega (arith, none)) c.in_ok-name.ensures.some c.requires
