use Rattle.std.proofs.Common.{true≢false, is_lt, arith, sym, ◌∙◌, inl, inr, ap, get_or, rules}
use Rattle.std.specs.Cmp.Lexicographic.{slice_cmp}
use Rattle.std.specs.Ordering.{nat_cmp}
use Rattle.std.proofs.Math.Seq.{map-set_same}
use Rattle.std.proofs.lemmas.Fn.{always_returns_same}
use Rattle.std.proofs.lemmas.List.{get_or_default}
use Rattle.std.proofs.lemmas.Slice.Eq.{bytes_eq-Decides}
use Rattle.ndef_c.specs.HandoverItems.{name_in, without_record}
use Rattle.ndef_c.proofs.LinkedReferences.{none_linked, one_linked, parted}
use Rattle.ndef_c.proofs.reference_records.link_first.Goals as goal
use Rattle.ndef_c.proofs.reference_records.link_first.Goals.{else-item-eq0-via-then-item-eq0+else-eq, else-item-eq0-via-else-item-eq0}

pub returns-then-eq : goal.returns-then-eq
returns-then-eq c =
    let payload = c.args.payload.now in
    let id = c.args.id.now in
    let items = c.args.items.now in
    let first = c.partition_point-first.result in
    let p = c.partition_point-first.ensures.partitioned (λ r. is_lt (slice_cmp nat_cmp (name_in payload r) id)) (always_returns_same _ _ _ (λ a r q m. search rules)) (parted payload id items c.requires.sorted) in
    let name = sym c.name_in.ensures ∙ (bytes_eq-Decides c.name_in.result.now id).0 (sym c.eq.ensures ∙ c.if-eq.true) in
    record {
      same = map-set_same without_record items first c.linked.result _ c.linked.ensures.same;
      linked = λ k d l h. one_linked payload id c.args.place items first k d _ c.linked.result c.requires.sorted p l h c.if-first-items.true name c.if-item-eq0.true c.linked.ensures.place;
    }

pub returns-else-item-eq0-clause-linked : goal.returns-else-item-eq0-clause-linked
returns-else-item-eq0-clause-linked c = λ k d l h.
    let payload = c.args.payload.now in
    let id = c.args.id.now in
    let items = c.args.items.now in
    let first = c.partition_point-first.result in
    let p = c.partition_point-first.ensures.partitioned (λ r. is_lt (slice_cmp nat_cmp (name_in payload r) id)) (always_returns_same _ _ _ (λ a r q m. search rules)) (parted payload id items c.requires.sorted) in
    none_linked payload id c.args.place items first k d c.requires.sorted p l h (λ e.
    let same = ap (λ j. get_or items j d) e ∙ get_or_default items first d _ c.if-first-items.true in
    elim c.else-item-eq0.branch [
      | else-item-eq0-via-then-item-eq0+else-eq w ↦ inl (λ n. true≢false (sym ((bytes_eq-Decides w.name_in.result.now id).1 (w.name_in.ensures ∙ sym (ap (name_in payload) same) ∙ n)) ∙ sym w.eq.ensures ∙ w.if-eq.false))
      | else-item-eq0-via-else-item-eq0 w ↦ inr (λ z. w.if-item-eq0.false (sym (ap (λ r. r.has_record) same) ∙ z))
    ])

pub returns-else-first-items-clause-linked : goal.returns-else-first-items-clause-linked
returns-else-first-items-clause-linked c = λ k d l h.
    let payload = c.args.payload.now in
    let id = c.args.id.now in
    let items = c.args.items.now in
    let first = c.partition_point-first.result in
    let p = c.partition_point-first.ensures.partitioned (λ r. is_lt (slice_cmp nat_cmp (name_in payload r) id)) (always_returns_same _ _ _ (λ a r q m. search rules)) (parted payload id items c.requires.sorted) in
    none_linked payload id c.args.place items first k d c.requires.sorted p l h (λ e. let beyond = c.if-first-items.false in absurd (omega (arith, e, l, beyond)))
