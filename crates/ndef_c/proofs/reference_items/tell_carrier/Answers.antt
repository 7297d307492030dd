use Rattle.std.proofs.Common.{◌≡◌, ◌+◌, ◌++◌, ◌∷◌, [], suc, length, length-append, append_assoc, get_or, refl, sym, ◌∙◌, ap, subst, arith}
use Rattle.std.specs.Prelude.{slice_get}
use Rattle.ndef_value.specs.ListLaws.{all_append}
use Rattle.ndef_c.specs.Alternatives.{reference_place, references}
use Rattle.ndef_c.specs.Arrays.{set_over}
use Rattle.ndef_c.specs.HandoverItems.{HasNoRecord, IsOfPart, IsReferenceOf}
use Rattle.ndef_c.proofs.Alternatives.{NamesAt, ac_at, name_there, names_first}
use Rattle.ndef_c.proofs.Filled.{each_more, element_at, filled_on}
use Rattle.ndef_c.proofs.reference_items.tell_carrier.Goals as goal

pub bounds-payload-first : goal.bounds-payload-first
bounds-payload-first c = (ac_at c.args.carrier.now.payload.now c.from-first.result c.requires.alternative c.from-first.ensures).count_within

pub item_of-requires-clause-bound : goal.item_of-requires-clause-bound
item_of-requires-clause-bound c =
    let q = ac_at c.args.carrier.now.payload.now (get_or c.args.carrier.now.payload.now 1 0) c.requires.alternative refl in
    let n = q.count_within in
    let short = c.requires.short in
    let at = c.counted_at.ensures.at in
    omega (arith, n, short, at)

pub loop-before-init : goal.loop-before-init
loop-before-init c =
    let payload = c.args.carrier.now.payload.now in
    let p = ac_at payload c.from-first.result c.requires.alternative c.from-first.ensures in
    let q = ac_at payload (get_or payload 1 0) c.requires.alternative refl in
    let buffer = c.requires.buffer in
    let item = c.item_of.result in
    record {
      within = omega arith;
      names = subst (λ k. NamesAt payload k (3 + c.from-first.result) 0) (sym c.from-count.ensures) (names_first payload c.from-first.result p);
      own = item ∷ [];
      are = λ v s. (
        record {
          part = c.counted_at.result;
          is = record { lies = (v.reference, refl, rw (c.counted_at.ensures.at, c.counted_at.ensures.length) (q.reference v s)); place = c.counted_at.ensures.at };
          of_part = c.item_of.ensures;
        },
        tt,
      );
      none = (c.item_of.ensures.none, tt);
      count = refl;
      filled = λ done before e n. filled_on done item before c.args.items.now c.args.from e n (element_at done before c.args.items.now (length done) e (omega arith) (omega (arith, n, buffer)));
    }

pub counted_at-part-requires : goal.counted_at-part-requires
counted_at-part-requires c =
    let l = c.loop-before-test.true in
    (name_there _ _ _ _ (omega (arith, l)) c.loop-before.invariant.names).within

pub item_of-requires-in-loop-before-clause-bound : goal.item_of-requires-in-loop-before-clause-bound
item_of-requires-in-loop-before-clause-bound c =
    let l = c.loop-before-test.true in
    let bound = (name_there _ _ _ _ (omega (arith, l)) c.loop-before.invariant.names).bound in
    let short = c.requires.short in
    let at = c.counted_at-part.ensures.at in
    omega (arith, bound, short, at)

pub loop-before-preserved : goal.loop-before-preserved
loop-before-preserved c =
    let payload = c.args.carrier.now.payload.now in
    let i = c.loop-before.invariant in
    let l = c.loop-before-test.true in
    let part = c.counted_at-part.result in
    let item = c.item_of-in-loop-before.result in
    let at = c.counted_at-part.ensures.at in
    let size = c.counted_at-part.ensures.length in
    let t = name_there _ _ _ _ (omega (arith, l)) i.names in
    let end : c.loop-before.at + (1 + get_or payload c.loop-before.at 0) ≡ part.at + part.length = omega (arith, at, size) in
    let count = i.count in
    let more = length-append i.own (item ∷ []) in
    let buffer = c.requires.buffer in
    let many = c.from-count.ensures ∙ ap (λ k. get_or payload (2 + k) 0) c.from-first.ensures in
    record {
      within = omega (arith, l);
      names = subst (λ k. NamesAt payload c.from-count.result k (c.loop-before.before + 1)) end t.next;
      own = i.own ++ item ∷ [];
      are = λ v s.
          let g = t.lies v s in
          let place : 0 + length i.own ≡ suc c.loop-before.before = omega (arith, count) in
          let next : c.loop-before.before + 1 ≡ 0 + length i.own = omega (arith, count) in
          each_more (IsReferenceOf c.args.carrier.now v) 0 i.own item (i.are v s) (record {
            part = part;
            is = record {
              lies = (g.0, ap (λ k. slice_get (references v) k) place ∙ g.1, rw (at, size) g.2);
              place = at ∙ t.place v s ∙ ap (reference_place (references v)) next;
            };
            of_part = subst (λ k. IsOfPart c.args.carrier.now k part item) next c.item_of-in-loop-before.ensures;
          });
      none = all_append HasNoRecord i.own (item ∷ []) i.none (c.item_of-in-loop-before.ensures.none, tt);
      count = omega (arith, count, more);
      filled = λ done before e n.
          let all = length-append done i.own in
          let space = element_at done before c.args.items.now (length (done ++ i.own)) e (omega (arith, all)) (omega (arith, all, n, count, buffer, many, l)) in
          filled_on (done ++ i.own) item before _ _ (i.filled done before e n) (omega (arith, all, n, count)) space ∙ ap (λ xs. set_over xs before) (append_assoc done i.own (item ∷ []));
    }

pub returns : goal.returns
returns c =
    let i = c.loop-before.invariant in
    let l = c.loop-before-test.false in
    let within = i.within in
    let count = i.count in
    let many = c.from-count.ensures ∙ ap (λ k. get_or c.args.carrier.now.payload.now (2 + k) 0) c.from-first.ensures in
    record { next = omega (arith, l, within, many); tells = λ v done before s e n. (i.own, i.are v s, omega (arith, l, within, count, many), i.none, i.filled done before e n) }
