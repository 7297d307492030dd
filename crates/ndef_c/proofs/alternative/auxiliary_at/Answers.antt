use Rattle.std.proofs.Common.{◌≡◌, ◌+◌, get_or, refl, sym, ◌∙◌, ap, subst, arith}
use Rattle.std.specs.Prelude.{slice_get}
use Rattle.ndef_c.specs.Alternatives.{reference_place, references}
use Rattle.ndef_c.proofs.Alternatives.{NamesAt, ac_at, name_there, names_first}
use Rattle.ndef_c.proofs.alternative.auxiliary_at.Goals as goal

pub loop-before-init : goal.loop-before-init
loop-before-init c =
    let payload = c.args.payload.now in
    let p = ac_at payload (get_or payload 1 0) c.requires.alternative refl in (
      omega arith,
      subst (λ n. NamesAt payload (get_or payload (2 + get_or payload 1 0) 0) (3 + n) 0) (sym c.from-at.ensures) (names_first payload (get_or payload 1 0) p),
    )

pub bounds-payload-at : goal.bounds-payload-at
bounds-payload-at c =
    let l = c.loop-before-test.true in
    let n = c.requires.index in
    (name_there _ _ _ _ (omega (arith, l, n)) c.loop-before.invariant.1).within

pub overflow_add-at-in-loop-before-2 : goal.overflow_add-at-in-loop-before-2
overflow_add-at-in-loop-before-2 c =
    let l = c.loop-before-test.true in
    let n = c.requires.index in
    let b = (name_there _ _ _ _ (omega (arith, l, n)) c.loop-before.invariant.1).bound in
    let e = c.from.ensures in
    omega (arith, b, e)

pub loop-before-preserved : goal.loop-before-preserved
loop-before-preserved c =
    let payload = c.args.payload.now in
    let l = c.loop-before-test.true in
    let n = c.requires.index in
    let t = name_there _ _ _ _ (omega (arith, l, n)) c.loop-before.invariant.1 in (
      omega (arith, l),
      subst (λ k. NamesAt payload (get_or payload (2 + get_or payload 1 0) 0) (c.loop-before.at + (1 + k)) (c.loop-before._before + 1)) (sym c.from.ensures) t.next,
    )

pub counted_at-requires : goal.counted_at-requires
counted_at-requires c =
    let i = c.loop-before.invariant.0 in
    let n = c.requires.index in
    (name_there _ _ _ _ (omega (arith, i, n)) c.loop-before.invariant.1).within

pub returns : goal.returns
returns c =
    let i = c.loop-before.invariant.0 in
    let n = c.requires.index in
    let l = c.loop-before-test.false in
    let same : c.args.index ≡ c.loop-before._before = omega (arith, i, l) in
    let t = name_there _ _ _ _ (omega (arith, i, n)) c.loop-before.invariant.1 in
    record {
      lies = λ v s. let g = t.lies v s in (g.0, ap (λ k. slice_get v.auxiliary k) same ∙ g.1, rw (c.counted_at.ensures.at, c.counted_at.ensures.length) g.2);
      place = λ v s. c.counted_at.ensures.at ∙ t.place v s ∙ ap (λ k. reference_place (references v) (k + 1)) (sym same);
    }
