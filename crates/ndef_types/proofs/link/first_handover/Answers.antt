use Rattle.std.proofs.Common.{refl}
use Rattle.ndef_types.specs.Links.{IsHandoverRecord}
use Rattle.ndef_types.proofs.ContentsLemmas.{reached, lack_more, lack_all}
use Rattle.ndef_types.proofs.link.first_handover.Goals as goal

pub returns-then-is_handover : goal.returns-then-is_handover
returns-then-is_handover c =
    (c.loop-item.item-index, record { at = reached c.args.records.now _ _ c.loop-item-test.true c.item-item.is; has = c.if-is_handover.ensures.0 refl; before = c.loop-item.invariant })

pub loop-item-preserved : goal.loop-item-preserved
loop-item-preserved c =
    lack_more IsHandoverRecord c.args.records.now c.loop-item.item-index c.item-item.result (reached c.args.records.now _ _ c.loop-item-test.true c.item-item.is)
    (λ e. let t = c.if-is_handover.ensures.1 e in cc) c.loop-item.invariant

pub returns : goal.returns
returns c = lack_all IsHandoverRecord c.args.records.now c.loop-item.item-index c.loop-item-test.false c.loop-item.invariant
