use Rattle.std.proofs.Common.{◌∙◌, ◌+◌, ◌==◌, sym, ap, inl, inr, refl, arith, drop, length}
use Rattle.std.proofs.lemmas.Bool.{true≢false}
use Rattle.std.specs.Option.{option_map}
use Rattle.ndef_message.specs.CutLaws.{below_or_not}
use Rattle.ndef_message.specs.Machine.Encoding.{plan_of}
use Rattle.ndef_message.proofs.MessageSteps.{Goes, all_out, next_record, rest_is, stays}
use Rattle.ndef_message.proofs.RecordSteps.{steps_of}
use Rattle.ndef_message.proofs.encoder.fill_record.Goals as goal

pub returns-then-is_whole-clause-written : goal.returns-then-is_whole-clause-written
returns-then-is_whole-clause-written c =
    let a = c.args in
    let r = c.unwrap-record.result.now in
    let g : Goes a.form a.size a.message.now a.spot r c.plan_of-plan.result = record {
      is = c.requires.is;
      there = sym c.get.ensures.value ∙ ap (option_map (λ r. r.now)) c.unwrap-record.ensures;
      plan = c.plan_of-plan.ensures.value ∙ ap (λ n. plan_of a.form a.size (a.spot.index == 0) (a.spot.index + 1 == n) r) c.len-count.ensures.value;
    } in
    let f = c.fill-next.ensures.steps in
    let s = steps_of c.kind.ensures.value c.id.ensures.value (c.rest_of-rest.ensures ∙ ap (drop a.spot.progress.taken) c.payload.ensures.value) f.2 in
    (f.0, f.1, next_record g s ((c.is_whole.ensures r.kind r.id (drop c.fill-next.result.progress.taken r.payload) (rest_is g s)).0 c.if-is_whole.true))

pub returns-else-is_whole-clause-written : goal.returns-else-is_whole-clause-written
returns-else-is_whole-clause-written c =
    let a = c.args in
    let r = c.unwrap-record.result.now in
    let g : Goes a.form a.size a.message.now a.spot r c.plan_of-plan.result = record {
      is = c.requires.is;
      there = sym c.get.ensures.value ∙ ap (option_map (λ r. r.now)) c.unwrap-record.ensures;
      plan = c.plan_of-plan.ensures.value ∙ ap (λ n. plan_of a.form a.size (a.spot.index == 0) (a.spot.index + 1 == n) r) c.len-count.ensures.value;
    } in
    let f = c.fill-next.ensures.steps in
    let s = steps_of c.kind.ensures.value c.id.ensures.value (c.rest_of-rest.ensures ∙ ap (drop a.spot.progress.taken) c.payload.ensures.value) f.2 in
    (f.0, f.1, stays g s)

pub returns-else-is_whole-clause-moves : goal.returns-else-is_whole-clause-moves
returns-else-is_whole-clause-moves c =
    let a = c.args in
    let r = c.unwrap-record.result.now in
    let g : Goes a.form a.size a.message.now a.spot r c.plan_of-plan.result = record {
      is = c.requires.is;
      there = sym c.get.ensures.value ∙ ap (option_map (λ r. r.now)) c.unwrap-record.ensures;
      plan = c.plan_of-plan.ensures.value ∙ ap (λ n. plan_of a.form a.size (a.spot.index == 0) (a.spot.index + 1 == n) r) c.len-count.ensures.value;
    } in
    let f = c.fill-next.ensures in
    let rest = c.rest_of-rest.ensures ∙ ap (drop a.spot.progress.taken) c.payload.ensures.value in
    let s = steps_of c.kind.ensures.value c.id.ensures.value rest f.steps.2 in
    let put = f.steps.1 in
    let within = put.within in
    inl (
      refl,
      elim (below_or_not (a.at + c.fill-next.result.count) (length a.buffer.now)) [
        | inr full ↦ omega (arith, full, within)
        | inl space ↦
            let all = f.full space in
            let none = all_out g s (all.0 ∙ ap (λ l. a.spot.progress.taken + length l) rest) all.1 in
            let whole = (c.is_whole.ensures r.kind r.id (drop c.fill-next.result.progress.taken r.payload) (rest_is g s)).1 none in
            absurd (true≢false (sym whole ∙ c.if-is_whole.false))
      ],
    )
