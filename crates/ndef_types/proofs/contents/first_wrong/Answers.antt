use Rattle.std.proofs.Common.{refl, arith}
use Rattle.ndef_types.proofs.ContentsLemmas.{reached, order_more}
use Rattle.ndef_types.proofs.contents.first_wrong.Goals as goal

pub returns-then-not-is_in_order : goal.returns-then-not-is_in_order
returns-then-not-is_in_order c = record {
  item = c.index-records-index.result;
  at = reached c.args.records.now _ _ c.loop-index-test.true c.index-records-index.is;
  wrong = λ o. let t = c.if-not-is_in_order.ensures.1 o in cc;
  before = c.loop-index.invariant;
}

pub loop-index-preserved : goal.loop-index-preserved
loop-index-preserved c =
    order_more c.args.table c.args.records.now c.loop-index.index c.index-records-index.result (reached c.args.records.now _ _ c.loop-index-test.true c.index-records-index.is)
    (c.if-not-is_in_order.ensures.0 refl) c.loop-index.invariant

pub returns : goal.returns
returns c k l = c.loop-index.invariant k (omega (arith, c.loop-index-test.false))
