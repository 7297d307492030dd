use Rattle.std.proofs.Common.{◌<◌, ◌-◌, ℕ, true≢false, ap, sym, ◌∙◌, subst, refl, arith, get_or, below_more, map, inl}
use Rattle.std.proofs.Math.Seq.{map-set_same}
use Rattle.std.proofs.lemmas.List.{get_or-set_other}
use Rattle.std.proofs.lemmas.Slice.Eq.{bytes_eq-Decides}
use Rattle.std.proofs.lemmas.List.Elements.{recursion_from_All}
use Rattle.ndef_c.specs.HandoverItems.{Refers, name_in, without_record}
use Rattle.ndef_c.specs.declared.reference_items.NdefReferenceItem.{NdefReferenceItem}
use Rattle.ndef_c.proofs.LinkedReferences.{below_set, not_alike, refers_as}
use Rattle.ndef_c.proofs.ReferenceOrders.{map_count}
use Rattle.ndef_c.proofs.reference_records.link_others.Goals as goal
use Rattle.ndef_c.proofs.reference_records.link_others.Goals.{then-eq, else-eq}

pub loop-index-init : goal.loop-index-init
loop-index-init c = record {
  some = omega arith;
  same = refl;
  later = λ k d l. refl;
  done = λ bytes heads k d l m. heads k d m (inl (omega (arith, l)));
}

pub loop-index-preserved : goal.loop-index-preserved
loop-index-preserved c =
    let payload = c.args.payload.now in
    let i = c.loop-index.invariant in
    let items = c.loop-index.items in
    let index = c.loop-index.index in
    let some = i.some in
    let test = c.loop-index-test.true in
    let n = map_count items c.args.items.now i.same in
    let decides = bytes_eq-Decides c.name_in.result.now c.name_in-in-loop-index.result.now in
    record {
      some = omega (arith, some);
      same = elim c.if-eq.branch [
        | then-eq w ↦ ap (map without_record) w.items-is ∙ map-set_same without_record items index w.linked_as.result _ w.linked_as.ensures.same ∙ i.same
        | else-eq w ↦ ap (map without_record) w.items-is ∙ i.same
      ];
      later = λ k d l. elim c.if-eq.branch [
        | then-eq w ↦ ap (λ xs. get_or xs k d) w.items-is ∙ get_or-set_other items index k w.linked_as.result d (λ e. omega (arith, l, e)) ∙ i.later k d (omega (arith, l))
        | else-eq w ↦ ap (λ xs. get_or xs k d) w.items-is ∙ i.later k d (omega (arith, l))
      ];
      done = λ bytes heads k d l m.
          let before : (j : ℕ) (e : NdefReferenceItem) → j < index → Refers bytes payload (get_or items j e) = λ j e o. i.done bytes heads j e o (omega (arith, o, test, n)) in
          elim c.if-eq.branch [
            | then-eq w ↦
                let name = sym c.name_in.ensures ∙ decides.0 (sym c.eq.ensures ∙ w.if-eq.true) ∙ c.name_in-in-loop-index.ensures ∙ sym (ap (name_in payload) w.linked_as.ensures.same) in
                let to = w.linked_as.ensures in
                subst (λ xs. Refers bytes payload (get_or xs k d)) (sym w.items-is)
                (below_set (Refers bytes payload) items index w.linked_as.result (omega (arith, test, n)) (refers_as bytes payload items (index - 1) d _ w.linked_as.result (omega (arith, some, test, n)) name to.has to.index to.at (before (index - 1) d (omega (arith, some)))) before k d l)
            | else-eq w ↦
                let head = not_alike payload c.args.items.now items index _ _ i.same some (omega (arith, test, n)) (λ e. true≢false (sym (decides.1 (c.name_in.ensures ∙ e ∙ sym c.name_in-in-loop-index.ensures)) ∙ sym c.eq.ensures ∙ w.if-eq.false)) in
                subst (λ xs. Refers bytes payload (get_or xs k d)) (sym w.items-is) (below_more (λ j. (e : NdefReferenceItem) → Refers bytes payload (get_or items j e)) index (λ j o e. before j e o) (λ e. subst (Refers bytes payload) (sym (i.later index e (omega arith))) (heads index e (omega (arith, test, n)) head)) k l d)
          ];
    }

pub returns : goal.returns
returns c =
    let i = c.loop-index.invariant in
    let items = c.loop-index.items in
    let l = c.loop-index-test.false in
    let n = map_count items c.args.items.now i.same in
    record { same = i.same; all = λ bytes heads. recursion_from_All (Refers bytes c.args.payload.now) items (λ k d m. i.done bytes heads k d (omega (arith, l, n, m)) (omega (arith, n, m))) }
