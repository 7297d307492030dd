use Rattle.std.proofs.Common.{length, refl, arith}
use Rattle.ndef_c.proofs.FieldLists.{ends_within}
use Rattle.ndef_c.proofs.fields.give_field.Goals as goal

pub field_with-requires : goal.field_with-requires
field_with-requires c =
    (length c.args.front.now, c.fields_before_are_exact.ensures.follow c.args.front.now c.fields_before.result c.fields_before.ensures)

pub returns-in-Some-clause-within : goal.returns-in-Some-clause-within
returns-in-Some-clause-within c =
    (c.fields_before.result, c.fields_before.ensures, λ _. (refl, (c.in-Some.field, c.in-Some.ensures.some, c.numbers_of.ensures)))

pub returns-in-Some-clause-following : goal.returns-in-Some-clause-following
returns-in-Some-clause-following c = λ l.
    let reported = c.fields_before.result in
    let i = c.in-Some.ensures.some in
    let follow = c.fields_before_are_exact.ensures.follow c.args.front.now reported c.fields_before.ensures in
    let n = ends_within reported i.before i.following 0 (length c.args.front.now) c.in-Some.field follow i.split in
    let to = i.to in
    absurd (omega (arith, n, to, l))

pub returns-in-None-clause-within : goal.returns-in-None-clause-within
returns-in-None-clause-within c =
    let follow = c.fields_before_are_exact.ensures.follow c.args.front.now c.fields_before.result c.fields_before.ensures in
    let n = c.in-None.ensures.none (length c.args.front.now) follow in
    (c.fields_before.result, c.fields_before.ensures, λ l. absurd (omega (arith, n, l)))
