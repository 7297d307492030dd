use Rattle.std.proofs.Common.{sym, subst, length, ◌≡◌, ◌≤◌}
use Rattle.std.specs.Prelude.{Some, slice_get}
use Rattle.ndef_types.proofs.ContentsLemmas.{reached}
use Rattle.ndef_types.proofs.FirstIds.{all_added, none_found}
use Rattle.ndef_types.proofs.ids.MessageOuter.ids.Goals as goal

pub loop-index-init : goal.loop-index-init
loop-index-init c = none_found c.args.self.now c.new-ids.result c.new-ids.ensures.empty

pub loop-index-preserved : goal.loop-index-preserved
loop-index-preserved c =
    let i = c.item-item.result in
    let at = subst (λ items. slice_get items c.loop-index.index ≡ Some i) c.records-item-items.ensures.value (reached c.records-item-items.result.now _ i c.loop-index-test.true c.item-item.is) in
    c.in_ok-add.ensures c.args.self.now i at (sym c.id.ensures.value) c.loop-index.invariant

pub returns : goal.returns
returns c =
    all_added c.args.self.now c.loop-index.index c.loop-index.ids
    (subst (λ items. length items ≤ c.loop-index.index) c.records-item-items.ensures.value c.loop-index-test.false) c.loop-index.invariant
