use Rattle.std.proofs.Common.{◌≡◌, ◌+◌, ◌++◌, ◌∷◌, [], suc, length, length-append, get_or, refl, sym, ◌∙◌, ap, subst, arith}
use Rattle.std.specs.Prelude.{slice_get}
use Rattle.ndef_c.specs.Alternatives.{IsReferencePart, reference_place, references}
use Rattle.ndef_c.proofs.Alternatives.{NamesAt, ac_at, name_there, names_count, names_first}
use Rattle.ndef_c.proofs.Filled.{each_more, filled_on}
use Rattle.ndef_c.proofs.references.tell_references.Goals as goal

pub bounds-payload-first : goal.bounds-payload-first
bounds-payload-first c = (ac_at c.args.payload.now c.from-first.result c.requires.alternative c.from-first.ensures).count_within

pub loop-before-init : goal.loop-before-init
loop-before-init c =
    let payload = c.args.payload.now in
    let p = ac_at payload c.from-first.result c.requires.alternative c.from-first.ensures in
    let q = ac_at payload (get_or payload 1 0) c.requires.alternative refl in
    let buffer = c.requires.buffer in
    record {
      within = omega arith;
      names = subst (λ k. NamesAt payload k (3 + c.from-first.result) 0) (sym c.from-count.ensures) (names_first payload c.from-first.result p);
      reported = c.counted_at.result ∷ [];
      are = λ v s. (record { lies = (v.reference, refl, rw (c.counted_at.ensures.at, c.counted_at.ensures.length) (q.reference v s)); place = c.counted_at.ensures.at }, tt);
      count = refl;
      filled = filled_on [] c.counted_at.result c.args.parts.now c.args.parts.now 0 refl refl (omega (arith, buffer));
    }

pub counted_at-part-requires : goal.counted_at-part-requires
counted_at-part-requires c =
    let l = c.loop-before-test.true in
    (name_there _ _ _ _ (omega (arith, l)) c.loop-before.invariant.names).within

pub loop-before-preserved : goal.loop-before-preserved
loop-before-preserved c =
    let payload = c.args.payload.now in
    let i = c.loop-before.invariant in
    let l = c.loop-before-test.true in
    let part = c.counted_at-part.result in
    let at = c.counted_at-part.ensures.at in
    let size = c.counted_at-part.ensures.length in
    let t = name_there _ _ _ _ (omega (arith, l)) i.names in
    let end : c.loop-before.at + (1 + get_or payload c.loop-before.at 0) ≡ part.at + part.length = omega (arith, at, size) in
    let count = i.count in
    let more = length-append i.reported (part ∷ []) in
    let buffer = c.requires.buffer in
    let many = c.from-count.ensures ∙ ap (λ k. get_or payload (2 + k) 0) c.from-first.ensures in
    record {
      within = omega (arith, l);
      names = subst (λ k. NamesAt payload c.from-count.result k (c.loop-before.before + 1)) end t.next;
      reported = i.reported ++ part ∷ [];
      are = λ v s.
          let g = t.lies v s in
          let place : 0 + length i.reported ≡ suc c.loop-before.before = omega (arith, count) in
          let next : c.loop-before.before + 1 ≡ 0 + length i.reported = omega (arith, count) in
          each_more (IsReferencePart payload v) 0 i.reported part (i.are v s) (record {
            lies = (g.0, ap (λ k. slice_get (references v) k) place ∙ g.1, rw (at, size) g.2);
            place = at ∙ t.place v s ∙ ap (reference_place (references v)) next;
          });
      count = omega (arith, count, more);
      filled = filled_on i.reported part _ _ _ i.filled (omega (arith, count)) (omega (arith, count, buffer, many, l));
    }

pub returns : goal.returns
returns c = λ v s.
    let payload = c.args.payload.now in
    let i = c.loop-before.invariant in
    let l = c.loop-before-test.false in
    let within = i.within in
    let count = i.count in
    let p = ac_at payload c.from-first.result c.requires.alternative c.from-first.ensures in
    let n = names_count _ _ _ _ (p.stand v s) in
    let k = c.from-count.ensures in
    (i.reported, i.are v s, omega (arith, l, within, count, n, k), i.filled)
