use Rattle.std.proofs.Common.{◌++◌, length, drop, sym, ◌∙◌, ap, subst, arith, true≢false, inl, inr}
use Rattle.std.specs.List.{AllByRecursion}
use Rattle.std.specs.Prelude.{◌==◌}
use Rattle.std.proofs.lemmas.List.{length-map}
use Rattle.ndef_value.specs.ListLaws.{all_more}
use Rattle.ndef_types.specs.Links.{alternatives}
use Rattle.ndef_c.specs.HandoverItems.{AreReferenceItems, HasNoRecord, Refers, RefersTo, without_record}
use Rattle.ndef_c.specs.Links.{HasRuns}
use Rattle.ndef_c.specs.ReferenceOrder.{ArePlaced}
use Rattle.ndef_c.proofs.Filled.{front_of, is_too_small as too_small, is_enough as enough}
use Rattle.ndef_c.proofs.Ahead.{empty_rest}
use Rattle.ndef_c.proofs.ReferenceLists.{are_placed}
use Rattle.ndef_c.proofs.ReferenceOrders.{all_bare}
use Rattle.ndef_c.proofs.handover_items.give_items.Goals as goal

pub returns-then-items-count-clause-gives : goal.returns-then-items-count-clause-gives
returns-then-items-count-clause-gives c = λ profile records h. record { records = records; carriers = h; gives = too_small _ _ _ _ (c.requires.count profile records h) c.if-items-count.true }

pub tell_references-requires-clause-buffer : goal.tell_references-requires-clause-buffer
tell_references-requires-clause-buffer c = λ profile records h.
    let n = c.requires.count profile records h in
    let l = c.if-items-count.false in
    omega (arith, n, l)

pub link-requires-clause-none : goal.link-requires-clause-none
link-requires-clause-none c =
    let q = c.requires.carriers in
    let t = c.tell_references.ensures q.0 q.1 q.2 in
    let f = front_of t.0 c.args.items.now c.tell_references.new.items c.args.count t.4 (c.requires.count q.0 q.1 q.2 ∙ sym t.2) in
    subst (AllByRecursion HasNoRecord) (sym f.front) t.3

pub link-requires-clause-placed : goal.link-requires-clause-placed
link-requires-clause-placed c =
    let q = c.requires.carriers in
    let t = c.tell_references.ensures q.0 q.1 q.2 in
    let f = front_of t.0 c.args.items.now c.tell_references.new.items c.args.count t.4 (c.requires.count q.0 q.1 q.2 ∙ sym t.2) in
    subst ArePlaced (sym f.front) (are_placed c.args.payload.now 0 (alternatives q.1) t.0 t.1)

pub returns-then-not-is_empty-clause-gives : goal.returns-then-not-is_empty-clause-gives
returns-then-not-is_empty-clause-gives c = λ profile records h.
    let bytes = c.args.bytes.now in
    let payload = c.args.payload.now in
    let count = c.requires.count profile records h in
    let t = c.tell_references.ensures profile records h in
    let f = front_of t.0 c.args.items.now c.tell_references.new.items c.args.count t.4 (count ∙ sym t.2) in
    let new = c.link.new.items in
    let same = c.link.ensures.same ∙ f.front in
    let size = sym (length-map new without_record) ∙ ap length same in
    let l = c.if-items-count.false in
    let message : HasRuns bytes = elim c.requires.message [ inl e ↦ absurd (true≢false (ap (λ s. length s == 0) (sym e) ∙ sym c.is_empty.ensures ∙ c.if-not-is_empty.true)) | inr m ↦ m ] in
    record {
      records = records;
      carriers = h;
      gives = enough _ _ _ _ _ count (omega (arith, l)) new (
        subst (AreReferenceItems payload 0 (alternatives records)) (sym same) t.1,
        all_more (Refers bytes payload) (RefersTo bytes payload) new (λ r k. inr (message, k)) c.link.ensures.records,
      )
          (size ∙ t.2)
          (ap (λ xs. new ++ xs) (f.back ∙ ap (λ n. drop n c.args.items.now) (sym size)));
    }

pub returns-else-not-is_empty-clause-gives : goal.returns-else-not-is_empty-clause-gives
returns-else-not-is_empty-clause-gives c = λ profile records h.
    let bytes = c.args.bytes.now in
    let payload = c.args.payload.now in
    let count = c.requires.count profile records h in
    let t = c.tell_references.ensures profile records h in
    let l = c.if-items-count.false in
    let none = empty_rest bytes (sym c.is_empty.ensures ∙ c.if-not-is_empty.false) in
    record {
      records = records;
      carriers = h;
      gives = enough _ _ _ _ _ count (omega (arith, l)) t.0
          (subst (AreReferenceItems payload 0 (alternatives records)) (sym (all_bare t.0 t.3)) t.1, all_more HasNoRecord (RefersTo bytes payload) t.0 (λ r k. inl (none, k)) t.3)
          t.2
          t.4;
    }
