use Rattle.std.proofs.Common.{◌≡◌, ◌∙◌, sym, refl}
use Rattle.ndef_format.specs.Nested.{kind_in}
use Rattle.ndef_types.specs.Contents.{IsOfKind}
use Rattle.ndef_types.proofs.ContentsLemmas.{reached, lack_more, lack_all}
use Rattle.ndef_types.proofs.contents.first_of.Goals as goal

pub returns-then-is_kind : goal.returns-then-is_kind
returns-then-is_kind c =
    let i = c.item-item.result in
    let k : c.kind-in-loop-item.result ≡ kind_in c.args.table i.tnf i.kind = c.kind-in-loop-item.ensures ∙ (λ j. kind_in c.args.table (c.tnf.ensures.value j) (c.kind.ensures.value j)) in
    (c.loop-item.item-index, record { at = reached c.args.records.now _ i c.loop-item-test.true c.item-item.is; has = sym k ∙ c.if-is_kind.ensures.0 refl; before = c.loop-item.invariant })

pub loop-item-preserved : goal.loop-item-preserved
loop-item-preserved c =
    let i = c.item-item.result in
    let k : c.kind-in-loop-item.result ≡ kind_in c.args.table i.tnf i.kind = c.kind-in-loop-item.ensures ∙ (λ j. kind_in c.args.table (c.tnf.ensures.value j) (c.kind.ensures.value j)) in
    lack_more (IsOfKind c.args.table c.args.kind) c.args.records.now c.loop-item.item-index i (reached c.args.records.now _ i c.loop-item-test.true c.item-item.is)
    (λ e. let t = c.if-is_kind.ensures.1 (k ∙ e) in cc) c.loop-item.invariant

pub returns : goal.returns
returns c = lack_all (IsOfKind c.args.table c.args.kind) c.args.records.now c.loop-item.item-index c.loop-item-test.false c.loop-item.invariant
