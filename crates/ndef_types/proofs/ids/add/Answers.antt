use Rattle.std.proofs.Common.{◌≡◌, sym, ap, ◌∙◌, true, false, length, inl, inr}
use Rattle.std.specs.Prelude.{◌==◌}
use Rattle.std.proofs.lemmas.Bool.{eqb-true}
use Rattle.std.proofs.lemmas.List.{nil_from_length}
use Rattle.ndef_types.proofs.FirstIds.{none_added, one_added}
use Rattle.ndef_types.proofs.ids.add.Goals.{else-not-is_empty-via-then-not-is_empty+else-not-contains_key, else-not-is_empty-via-else-not-is_empty}
use Rattle.ndef_types.proofs.ids.add.Goals as goal

pub returns-in_ok-insert : goal.returns-in_ok-insert
returns-in_ok-insert c = λ items i e same.
    one_added items c.args.index i c.args.id.now c.args.ids.now c.insert.new.self e same
    (λ none. let t : true ≡ false = sym (c.is_empty.ensures ∙ ap (λ s. length s == 0) none) ∙ c.if-not-is_empty.true in cc)
    (sym c.contains_key.ensures ∙ c.if-not-contains_key.true) c.in_ok-insert.ensures.updates

pub returns-else-not-is_empty : goal.returns-else-not-is_empty
returns-else-not-is_empty c = λ items i e same.
    none_added items c.args.index i c.args.id.now c.args.ids.now e same
    (elim c.else-not-is_empty.branch [
      | else-not-is_empty-via-then-not-is_empty+else-not-contains_key w ↦ inr (sym w.contains_key.ensures ∙ w.if-not-contains_key.false)
      | else-not-is_empty-via-else-not-is_empty w ↦ inl (nil_from_length c.args.id.now (eqb-true (length c.args.id.now) 0 (sym c.is_empty.ensures ∙ w.if-not-is_empty.false)))
    ])
