use Rattle.std.proofs.Common.{sym, subst, refl, ◌≡◌, ◌≢◌, [], ◌∙◌}
use Rattle.std.proofs.lemmas.List.{take_all}
use Rattle.ndef_format.specs.Nested.{kind_in}
use Rattle.ndef_format.specs.declared.table.Table.TheVariants.{SmartPoster}
use Rattle.ndef_types.specs.Posters.{titles, StandForTexts}
use Rattle.ndef_types.specs.Values.{StandsForText}
use Rattle.ndef_types.proofs.ContentsLemmas.{reached}
use Rattle.ndef_types.proofs.PosterLemmas.{one_title, title_more, title_same}
use Rattle.ndef_types.proofs.TextLemmas.{on_err}
use Rattle.ndef_types.proofs.smart_poster.SmartPoster.titles.Goals as goal
use Rattle.ndef_types.proofs.smart_poster.SmartPoster.titles.Goals.{then-is_kind+in_ok-to_value+in_ok-push, else-is_kind}

pub loop-item-preserved : goal.loop-item-preserved
loop-item-preserved c =
    let items = c.records-item-items.result.now in
    let n = c.loop-item.item-index in
    let i = c.item-item.result in
    let e = reached items n i c.loop-item-test.true c.item-item.is in
    let k : c.kind-in-loop-item.result ≡ kind_in SmartPoster i.tnf i.kind = c.kind-in-loop-item.ensures ∙ (λ j. kind_in SmartPoster (c.tnf.ensures.value j) (c.kind.ensures.value j)) in
    elim c.if-is_kind.branch [
      | then-is_kind+in_ok-to_value+in_ok-push w ↦
          rw (w.texts-is, w.in_ok-push.ensures)
          (title_more items n i c.loop-item.texts _ e (sym k ∙ w.if-is_kind.ensures.0 refl) c.loop-item.invariant
          (subst (λ s. StandsForText s w.in_ok-to_value.field-0) (w.new-title.ensures ∙ w.payload.ensures.value) w.in_ok-to_value.ensures))
      | else-is_kind w ↦ rw w.texts-is (title_same items n i c.loop-item.texts e (λ p. let t = w.if-is_kind.ensures.1 (k ∙ p) in cc) c.loop-item.invariant)
    ]

-- a title was read
pub returns-in_err-to_value-clause-memory : goal.returns-in_err-to_value-clause-memory
returns-in_err-to_value-clause-memory c =
    let i = c.item-item.result in
    let k : c.kind-in-loop-item.result ≡ kind_in SmartPoster i.tnf i.kind = c.kind-in-loop-item.ensures ∙ (λ j. kind_in SmartPoster (c.tnf.ensures.value j) (c.kind.ensures.value j)) in
    on_err _ (subst (λ xs. titles xs ≢ []) (c.records-item-items.ensures.value ∙ c.self.view_is)
    (one_title c.records-item-items.result.now c.loop-item.item-index i (reached _ _ i c.loop-item-test.true c.item-item.is) (sym k ∙ c.is_kind.ensures.0 c.if-is_kind.true)))

pub returns-in_err-push-clause-memory : goal.returns-in_err-push-clause-memory
returns-in_err-push-clause-memory c =
    let i = c.item-item.result in
    let k : c.kind-in-loop-item.result ≡ kind_in SmartPoster i.tnf i.kind = c.kind-in-loop-item.ensures ∙ (λ j. kind_in SmartPoster (c.tnf.ensures.value j) (c.kind.ensures.value j)) in
    on_err _ (subst (λ xs. titles xs ≢ []) (c.records-item-items.ensures.value ∙ c.self.view_is)
    (one_title c.records-item-items.result.now c.loop-item.item-index i (reached _ _ i c.loop-item-test.true c.item-item.is) (sym k ∙ c.is_kind.ensures.0 c.if-is_kind.true)))

pub returns-clause-value : goal.returns-clause-value
returns-clause-value c =
    subst (λ items. StandForTexts (titles items) c.loop-item.texts)
    (take_all c.loop-item.item-index c.records-item-items.result.now c.loop-item-test.false ∙ c.records-item-items.ensures.value ∙ c.self.view_is) c.loop-item.invariant
