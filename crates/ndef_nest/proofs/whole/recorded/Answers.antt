use Rattle.std.proofs.Common.{◌≡◌, ◌+◌, ◌-◌, ◌++◌, ◌∙◌, ◌≤◌, ◌↔◌, length, take, drop, ap, refl, sym, subst, arith}
use Rattle.ndef_format.specs.Nested.{IsPayload, checked, kind_in}
use Rattle.ndef_lang.specs.StepLaws.{octets_each}
use Rattle.ndef_nest.specs.Machine.Demands.{Allows, Later, Tail, demand_after}
use Rattle.ndef_nest.specs.Machine.Phases.{CompletesAfter, asking}
use Rattle.ndef_nest.specs.Machine.Reached.{IsInBody}
use Rattle.ndef_nest.proofs.Steps.{chain}
use Rattle.ndef_nest.proofs.WholeRecords.{ended_body, record_taken, record_come}
use Rattle.ndef_nest.proofs.whole.recorded.Goals as goal

pub returns-clause-future : goal.returns-clause-future
returns-clause-future c r =
    let x = c.args.context.now in
    let h = c.args.head.now in
    let bytes = c.args.bytes.now in
    let n = c.from-named.result in
    let i = c.from.result in
    let p = h.payload_length in
    let id_is = c.from.ensures ∙ c.unwrap_or.ensures in
    let within : n + i + p ≤ length bytes = omega (arith, c.if-bytes-before.false, c.if-bytes-before-2.false) in
    let name = take n bytes in
    let is : kind_in x.table h.tnf name ≡ c.checked-kind.result = ap (checked x.table) (sym c.of.ensures) ∙ sym c.checked-kind.ensures in
    let allowed = subst (Allows x.demand) (sym is) (c.allows.ensures.0 c.if-not-allows.false) in
    let cut : n + i + p - (n + i) ≡ p = omega arith in
    let has = subst (λ k. IsPayload k x.profile (take p (drop (n + i) bytes))) (sym is) (subst (λ k. IsPayload c.checked-kind.result x.profile (take k (drop (n + i) bytes))) cut (c.has.ensures c.if-not-has.false)) in
    let asked = c.after-demand.ensures ∙ ap (demand_after x.demand) (sym is) in
    let following = subst (λ d. CompletesAfter (asking x c.after-demand.result) c.after_record.result r ↔ Tail (Later x.profile x.table x.records) h.last d r) asked (c.after_record.ensures.future r) in
    chain following (record_taken x h bytes n i p (octets_each bytes c.type_inv.bytes) within c.from-named.ensures id_is refl allowed has r)

pub returns-clause-come : goal.returns-clause-come
returns-clause-come c records m come =
    let x = c.args.context.now in
    let h = c.args.head.now in
    let bytes = c.args.bytes.now in
    let n = c.from-named.result in
    let i = c.from.result in
    let p = h.payload_length in
    let id_is = c.from.ensures ∙ c.unwrap_or.ensures in
    let within : n + i + p ≤ length bytes = omega (arith, c.if-bytes-before.false, c.if-bytes-before-2.false) in
    let is : kind_in x.table h.tnf (take n bytes) ≡ c.checked-kind.result = ap (checked x.table) (sym c.of.ensures) ∙ sym c.checked-kind.ensures in
    let asked = c.after-demand.ensures ∙ ap (demand_after x.demand) (sym is) in
    let m2 = m ++ take (n + i + p) bytes in
    c.after_record.ensures.come (ended_body h) records m2 refl refl
    (subst (λ d. IsInBody (asking x d) (ended_body h) records m2) (sym asked) (record_come x h bytes n i p (octets_each bytes c.type_inv.bytes) within c.from-named.ensures id_is refl records m come))
