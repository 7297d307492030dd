use Rattle.std.proofs.Common.{ap, arith, length, refl}
use Rattle.ndef_c.proofs.FieldLists.{gapless_count}
use Rattle.ndef_c.proofs.fields.give_fields.Goals as goal

pub too_many-requires : goal.too_many-requires
too_many-requires c =
    let front = c.args.front.now in
    let n = gapless_count 0 c.fields_before.result (length front) (c.fields_before_are_exact.ensures.follow front c.fields_before.result c.fields_before.ensures) in
    omega (arith, n)

pub write_fields-requires : goal.write_fields-requires
write_fields-requires c =
    let same = ap length (c.fields_before_are_exact.ensures.one c.args.front.now c.fields_before.result c.fields_before-in_default.result c.fields_before.ensures c.fields_before-in_default.ensures) in
    omega (arith, same, c.in_default.ensures.none)

pub returns-in_default-clause-fields : goal.returns-in_default-clause-fields
returns-in_default-clause-fields c =
    let same = ap length (c.fields_before_are_exact.ensures.one c.args.front.now c.fields_before.result c.fields_before-in_default.result c.fields_before.ensures c.fields_before-in_default.ensures) in
    let fit = c.in_default.ensures.none in (
      c.fields_before-in_default.result,
      c.fields_before-in_default.ensures,
      record { count_is = c.write_fields.ensures.count; fits = λ _. (refl, c.write_fields.ensures.array); too_small = λ s. absurd (omega (arith, s, same, fit)) },
    )

pub returns-clause-fields : goal.returns-clause-fields
returns-clause-fields c =
    let n = c.in-Some.ensures.some in (
      c.fields_before.result,
      c.fields_before.ensures,
      record { count_is = n.0; fits = λ s. absurd (omega (arith, s, n.0, n.1)); too_small = λ _. (refl, refl) },
    )
