use Rattle.std.proofs.Common.{◌<◌, ◌++◌, ◌∷◌, [], length, length-append, map, refl, sym, ◌∙◌, ap, subst, arith, get_or}
use Rattle.std.proofs.lemmas.List.Elements.{All-from_recursion}
use Rattle.ndef_message.specs.WrittenLaws.{some_left}
use Rattle.ndef_c.specs.HandoverItems.{HasNoRecord, RefersAmong, without_record}
use Rattle.ndef_c.specs.ReferenceOrder.{Links}
use Rattle.ndef_c.specs.declared.message.Place.{Place}
use Rattle.ndef_c.proofs.Ahead.{empty_rest}
use Rattle.ndef_c.proofs.LinkedReferences.{head_alike, passes, passes_unnamed, refers_first}
use Rattle.ndef_c.proofs.ReferenceOrders.{map_count, same_at, sorted_alike}
use Rattle.ndef_c.proofs.Walking.{all_passed, begins, begins_here, here, left_at, onward}
use Rattle.ndef_c.proofs.reference_records.link_heads.Goals as goal
use Rattle.ndef_c.proofs.reference_records.link_heads.Goals.{then-not-is_empty, else-not-is_empty}

pub loop-found-init : goal.loop-found-init
loop-found-init c =
    let s = begins c.into_iter-found-iterator.ensures.into_iter_gives c.from-found-items.ensures.bytes c.from-found-items.ensures.at c.from-found-items.ensures.going in
    record {
      same = s.same;
      counted = omega arith;
      bare = refl;
      left = λ runs b. ([], left_at runs b s, refl, λ k d l h. refers_first c.args.bytes.now c.args.payload.now _ (All-from_recursion HasNoRecord c.args.items.now c.requires.none k d l));
    }

pub id_in-id-requires : goal.id_in-id-requires
id_in-id-requires c = let h = here c.args.bytes.now _ c.in-Some.found _ c.in-Some.ensures.steps c.loop-found.invariant.same in (_, h.there)

pub link_first-requires : goal.link_first-requires
link_first-requires c = record { sorted = sorted_alike c.args.payload.now c.args.items.now c.loop-found.items (sym c.loop-found.invariant.bare) c.requires.sorted }

pub overflow_add-index : goal.overflow_add-index
overflow_add-index c =
    let h = here c.args.bytes.now _ c.in-Some.found _ c.in-Some.ensures.steps c.loop-found.invariant.same in
    omega (arith, c.loop-found.invariant.counted, h.there.onward, h.there.within)

pub loop-found-preserved : goal.loop-found-preserved
loop-found-preserved c =
    let bytes = c.args.bytes.now in
    let payload = c.args.payload.now in
    let i = c.loop-found.invariant in
    let items = c.loop-found.items in
    let h = here bytes _ c.in-Some.found _ c.in-Some.ensures.steps i.same in
    let run = h.there.run in
    let id = c.id_in-id.ensures _ h.there in
    let n = map_count items c.args.items.now i.bare in
    let counted = i.counted in
    let place : Place = record { index = c.loop-found.index; at = c.in-Some.found.at } in
    record {
      same = h.same;
      counted = omega (arith, counted, h.there.onward, h.next);
      bare = elim c.if-not-is_empty.branch [
        | then-not-is_empty w ↦ ap (map without_record) w.items-is ∙ w.link_first.ensures.same ∙ i.bare
        | else-not-is_empty w ↦ ap (map without_record) w.items-is ∙ i.bare
      ];
      left = λ runs b.
          let t = i.left runs b in
          let size = t.2 in
          let more = length-append t.0 (run ∷ []) in (
            t.0 ++ run ∷ [],
            (onward t.1 h).left,
            omega (arith, size, more),
            λ k d l head.
                let within : k < length items = omega (arith, n, l) in
                elim c.if-not-is_empty.branch [
                  | then-not-is_empty w ↦
                      let new = w.link_first.new.items in
                      let some = some_left c.id_in-id.result.now _ c.is_empty.ensures w.if-not-is_empty.true in
                      let e = ap length id in
                      let m = map_count new items w.link_first.ensures.same in
                      let linked = subst (λ s. Links payload s place (get_or items k d) (get_or new k d)) id (w.link_first.ensures.linked k d within (head_alike payload c.args.items.now items k (sym i.bare) l head)) in
                      subst (λ xs. RefersAmong bytes payload (t.0 ++ run ∷ []) (get_or xs k d)) (sym w.items-is)
                      (passes bytes payload runs t.0 run _ _ place (get_or items k d) (get_or new k d) (omega (arith, some, e)) t.1.before (begins_here h) t.2 h.there.at_is (same_at new items w.link_first.ensures.same k d (omega (arith, m, within))) linked (t.3 k d l head))
                  | else-not-is_empty w ↦ subst (λ xs. RefersAmong bytes payload (t.0 ++ run ∷ []) (get_or xs k d)) (sym w.items-is)
                      (passes_unnamed bytes payload t.0 run (get_or items k d) (sym id ∙ empty_rest c.id_in-id.result.now (sym c.is_empty.ensures ∙ w.if-not-is_empty.false)) (t.3 k d l head))
                ],
          );
    }

pub returns : goal.returns
returns c = record {
  same = c.loop-found.invariant.bare;
  heads = λ k d l h runs b.
      let t = c.loop-found.invariant.left runs b in
      subst (λ rs. RefersAmong c.args.bytes.now c.args.payload.now rs (get_or c.loop-found.items k d)) (sym (all_passed t.1 c.in-None.ensures.steps).are) (t.3 k d l h);
}
