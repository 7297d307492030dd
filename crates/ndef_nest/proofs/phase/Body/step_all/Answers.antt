use Rattle.std.proofs.Common.{◌≡◌, ◌+◌, ◌-◌, ◌++◌, length, take, sym, subst, arith, length-take}
use Rattle.ndef_value.specs.ListLaws.{octets_taken}
use Rattle.ndef_lang.specs.Language.{PassesBetween, StepsAll}
use Rattle.ndef_lang.specs.Machine.Leaf.{CompletesLeaf}
use Rattle.ndef_lang.specs.StepLaws.{octets_each}
use Rattle.ndef_nest.specs.Machine.Demands.{IsBody, Later, Tail}
use Rattle.ndef_nest.proofs.Slices.{body_steps, steps_as, payload_come}
use Rattle.ndef_nest.proofs.phase.Body.step_all.Goals as goal

pub returns-clause-steps : goal.returns-clause-steps
returns-clause-steps c lo hi p =
    let x = c.args.context.now in
    let s = c.args.self in
    let tail = Tail (Later x.profile x.table x.records) s.last x.demand in
    let bytes = c.args.bytes.now in
    let count = c.step_all-count.result in
    let old = CompletesLeaf s.leaf in
    let new = CompletesLeaf c.step_all-count.new.self in
    let z = c.requires.after_id in
    let taken : length (take (count + 1) bytes) ≡ c.min-taken.result = omega (arith, c.min-taken.ensures, length-take (count + 1) bytes) in
    let steps : StepsAll old new bytes s.payload s.payload count = rw c.from-length.ensures at c.step_all-count.ensures.steps in
    let all = body_steps old new tail s.payload bytes lo hi count c.requires.few steps (subst (λ i. PassesBetween (IsBody old i s.payload tail) lo hi) z p) in
    steps_as (IsBody old s.id s.payload tail) (IsBody new s.id (s.payload - c.min-taken.result) tail) _ bytes lo hi count c.settled.ensures.future
    (subst (λ n. StepsAll (IsBody old s.id s.payload tail) (IsBody new s.id (s.payload - n) tail) bytes lo hi count) taken
    (subst (λ i. StepsAll (IsBody old i s.payload tail) (IsBody new i (s.payload - length (take (count + 1) bytes)) tail) bytes lo hi count) (sym z) all))

pub returns-clause-come : goal.returns-clause-come
returns-clause-come c records m h =
    let x = c.args.context.now in
    let s = c.args.self in
    let bytes = c.args.bytes.now in
    let count = c.step_all-count.result in
    let new = c.step_all-count.new.self in
    let front = take (count + 1) bytes in
    let z = c.requires.after_id in
    let few = c.requires.few in
    let come = payload_come x s new (s.payload - c.min-taken.result) records m front z (octets_taken (count + 1) bytes (octets_each _ c.type_inv.bytes)) (omega (arith, c.min-taken.ensures, length-take (count + 1) bytes))
    (λ kind. c.step_all-count.ensures.reached kind 1 x.profile) h in
    c.settled.ensures.come records (m ++ front) come

pub returns-clause-reason : goal.returns-clause-reason
returns-clause-reason c less kind profile s reached = rw c.reason.ensures (c.step_all-count.ensures.reason less kind 1 profile s reached)
