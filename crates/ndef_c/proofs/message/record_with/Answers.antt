use Rattle.std.proofs.Common.{◌++◌, ◌∷◌, [], length-append, map, refl, sym, ◌∙◌, subst, arith, true≢false, inr}
use Rattle.std.proofs.lemmas.Slice.Eq.{bytes_eq-Decides}
use Rattle.ndef_format.specs.Messages.{run_record}
use Rattle.ndef_message.specs.WrittenLaws.{some_left}
use Rattle.ndef_types.specs.Contents.{Lack}
use Rattle.ndef_types.specs.Links.{HasId}
use Rattle.ndef_c.proofs.Messages.{index_of, lack_all, place_of}
use Rattle.ndef_c.proofs.Walking.{all_passed, begins, begins_here, here, left_at, onward}
use Rattle.ndef_c.proofs.message.record_with.Goals as goal

pub loop-found-init : goal.loop-found-init
loop-found-init c =
    let s = begins c.into_iter-found-iterator.ensures.into_iter_gives c.from-found-items.ensures.bytes c.from-found-items.ensures.at c.from-found-items.ensures.going in
    record { same = s.same; counted = omega arith; left = λ runs b. ([], left_at runs b s, refl, tt) }

pub id_in-requires : goal.id_in-requires
id_in-requires c = let h = here c.args.bytes.now _ c.in-Some.found _ c.in-Some.ensures.steps c.loop-found.invariant.same in (_, h.there)

pub overflow_add-index : goal.overflow_add-index
overflow_add-index c =
    let h = here c.args.bytes.now _ c.in-Some.found _ c.in-Some.ensures.steps c.loop-found.invariant.same in
    omega (arith, c.loop-found.invariant.counted, h.there.onward, h.there.within)

pub returns-then-eq : goal.returns-then-eq
returns-then-eq c = λ runs b.
    let bytes = c.args.bytes.now in
    let i = c.loop-found.invariant in
    let h = here bytes _ c.in-Some.found _ c.in-Some.ensures.steps i.same in
    let l = i.left runs b in
    let o = onward l.1 h in
    let has = sym (c.id_in.ensures _ h.there) ∙ (bytes_eq-Decides c.id_in.result.now c.args.id.now).0 (sym c.eq.ensures ∙ c.if-eq.true) in (
      index_of runs l.0 h.there.run o.more c.args.id.now c.loop-found.index o.all (some_left c.args.id.now _ c.is_empty.ensures c.if-is_empty.false) l.2 l.3 has,
      place_of bytes runs l.0 h.there.run o.more _ _ _ o.all l.1.before (begins_here h) l.2 h.there.at_is,
    )

pub loop-found-preserved : goal.loop-found-preserved
loop-found-preserved c =
    let bytes = c.args.bytes.now in
    let i = c.loop-found.invariant in
    let h = here bytes _ c.in-Some.found _ c.in-Some.ensures.steps i.same in
    record {
      same = h.same;
      counted = omega (arith, i.counted, h.there.onward, h.next);
      left = λ runs b.
          let l = i.left runs b in
          let count = l.2 in
          let more = length-append l.0 (h.there.run ∷ []) in (
            l.0 ++ h.there.run ∷ [],
            (onward l.1 h).left,
            omega (arith, count, more),
            lack_all l.0 h.there.run c.args.id.now l.3 (λ e. true≢false (sym ((bytes_eq-Decides c.id_in.result.now c.args.id.now).1 (c.id_in.ensures _ h.there ∙ e)) ∙ sym c.eq.ensures ∙ c.if-eq.false)),
          );
    }

pub returns : goal.returns
returns c = λ runs b.
    let l = c.loop-found.invariant.left runs b in
    inr (subst (λ rs. Lack (HasId c.args.id.now) (map run_record rs)) (sym (all_passed l.1 c.in-None.ensures.steps).are) l.3)
