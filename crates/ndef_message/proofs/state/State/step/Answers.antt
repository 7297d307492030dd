use Rattle.std.proofs.Common.{◌≡◌, ◌≤◌, ◌∙◌, ap, subst, sym, arith, take, length-take}
use Rattle.std.proofs.lemmas.List.{take-take, length-take-le}
use Rattle.ndef_message.specs.Machine.Fronts.{SomeLed}
use Rattle.ndef_message.specs.Machine.State.{Onward, IsConsistentAt}
use Rattle.ndef_message.proofs.Feeding.{take_one}
use Rattle.ndef_message.proofs.Octets as octets
use Rattle.ndef_message.proofs.Somewhere.{number_of_some}
use Rattle.ndef_message.proofs.state.State.step.Goals as goal

pub in_payload-requires-clause-some : goal.in_payload-requires-clause-some
in_payload-requires-clause-some g c =
    let n : 1 ≤ c.in-Payload.left = number_of_some _ _ _ c.requires.led (λ led. octets.payload_left (octets.at_payload led.2 c.in-Payload.is led.3)) in
    let some = c.requires.some in
    let most = c.min-most-in-Payload.ensures in
    omega (arith, length-take c.min-most-in-Payload.result c.args.bytes.now)

pub returns-in-Some-clause-onward : goal.returns-in-Some-clause-onward
returns-in-Some-clause-onward g c front given point stands at going = c.in-Some.ensures.onward front given point stands

pub in_head-requires-clause-led : goal.in_head-requires-clause-led
in_head-requires-clause-led g c = subst (λ state. ∥ SomeLed (IsConsistentAt g.L.RecordLanguage c.args.limits.now state) ∥₁) (sym c.in-None.ensures.none) c.requires.led

pub returns-in-None-clause-onward : goal.returns-in-None-clause-onward
returns-in-None-clause-onward g c front given point stands at going =
    let n = c.in_head.new.self in
    let same = subst (λ state. IsConsistentAt g.L.RecordLanguage c.args.limits.now state front given point) (sym c.in-None.ensures.none) stands in
    subst (Onward g.L.RecordLanguage c.args.limits.now n front given point) (sym (take_one c.args.bytes.now c.requires.some)) (c.in_head.ensures.onward front given point same at)

pub in_type-requires-clause-some : goal.in_type-requires-clause-some
in_type-requires-clause-some g c =
    let n : 1 ≤ c.in-Type.left = number_of_some _ _ _ c.requires.led (λ led. (octets.type_left (octets.at_type led.2 c.in-Type.is led.3)).0) in
    let some = c.requires.some in
    let most = c.min-most.ensures in
    omega (arith, length-take c.min-most.result c.args.bytes.now)

pub returns-in-Type-clause-some : goal.returns-in-Type-clause-some
returns-in-Type-clause-some g c =
    let n : 1 ≤ c.in-Type.left = number_of_some _ _ _ c.requires.led (λ led. (octets.type_left (octets.at_type led.2 c.in-Type.is led.3)).0) in
    let some = c.requires.some in
    let most = c.min-most.ensures in
    let from = c.from.ensures in
    let all = c.in_type.ensures.all in
    omega (arith, length-take c.min-most.result c.args.bytes.now)

pub returns-in-Type-clause-onward : goal.returns-in-Type-clause-onward
returns-in-Type-clause-onward g c front given point stands at going =
    let n = c.in_type.new.self in
    let bytes = c.args.bytes.now in
    let most = c.min-most.ensures in
    let same : take c.min-most.result bytes ≡ take c.in_type.result bytes = ap (λ k. take k bytes) (sym (c.in_type.ensures.all ∙ length-take-le c.min-most.result bytes (omega arith))) in
    subst (Onward g.L.RecordLanguage c.args.limits.now n front given point) same (c.in_type.ensures.onward front given point stands at)

pub returns-in-Id-clause-some : goal.returns-in-Id-clause-some
returns-in-Id-clause-some g c =
    let n : 1 ≤ c.in-Id.left = number_of_some _ _ _ c.requires.led (λ led. octets.id_left (octets.at_id led.2 c.in-Id.is led.3)) in
    let some = c.requires.some in
    let most = c.min-most-in-Id.ensures in
    let from = c.from-in-Id.ensures in
    let all = c.in_id.ensures.all in
    omega (arith, length-take c.min-most-in-Id.result c.args.bytes.now)

pub returns-in-Id-clause-onward : goal.returns-in-Id-clause-onward
returns-in-Id-clause-onward g c front given point stands at going =
    let n = c.in_id.new.self in
    let bytes = c.args.bytes.now in
    let most = c.min-most-in-Id.ensures in
    let same : take c.min-most-in-Id.result bytes ≡ take c.in_id.result bytes = ap (λ k. take k bytes) (sym (c.in_id.ensures.all ∙ length-take-le c.min-most-in-Id.result bytes (omega arith))) in
    subst (Onward g.L.RecordLanguage c.args.limits.now n front given point) same (c.in_id.ensures.onward front given point stands)

pub returns-in-Payload-clause-onward : goal.returns-in-Payload-clause-onward
returns-in-Payload-clause-onward g c front given point stands at going =
    let n = c.in_payload.new.self in
    let bytes = c.args.bytes.now in
    let most = c.in_payload.ensures.most in
    let count = c.in_payload.result in
    let cut = length-take c.min-most-in-Payload.result bytes in
    let same : take count (take c.min-most-in-Payload.result bytes) ≡ take count bytes = take-take count c.min-most-in-Payload.result bytes (omega arith) in
    subst (Onward g.L.RecordLanguage c.args.limits.now n front given point) same (c.in_payload.ensures.onward front given point stands at)
