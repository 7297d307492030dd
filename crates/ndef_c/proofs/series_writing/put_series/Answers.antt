use Rattle.std.proofs.Common.{◌≡◌, subst, arith, inl, inr}
use Rattle.std.proofs.lemmas.Bool.{cases_lt}
use Rattle.ndef_c.specs.PendingRecord.{made_item}
use Rattle.ndef_c.specs.RecordList.{MayBeIn, series_items}
use Rattle.ndef_c.proofs.Puts.{puts_none}
use Rattle.ndef_c.proofs.Several.{step_at, written_none}
use Rattle.ndef_c.proofs.series_writing.put_series.Goals as goal

pub loop-index-init : goal.loop-index-init
loop-index-init c = record { may = λ k h. absurd (omega (arith, h)); written = written_none c.args.place (puts_none c.args.out.now (omega arith)) }

pub put_next-next-requires-clause-left : goal.put_next-next-requires-clause-left
put_next-next-requires-clause-left c =
    (step_at (series_items c.args.record_list.now) c.loop-index.index (made_item c.in_ok-made.made) c.in_ok-made.ensures.item c.requires.left c.loop-index.invariant.written).left

pub loop-index-preserved : goal.loop-index-preserved
loop-index-preserved c =
    let k = c.loop-index.index in
    let i = c.loop-index.invariant in
    record {
      may = λ j h. elim (cases_lt j k) [
        | inl x ↦ i.may j x
        | inr x ↦ (let e : k ≡ j = omega (arith, h, x) in subst (MayBeIn c.args.record_list.now) e c.in_ok-made.ensures.may)
      ];
      written = (step_at (series_items c.args.record_list.now) k (made_item c.in_ok-made.made) c.in_ok-made.ensures.item c.requires.left i.written).on _ _ c.put_next-next.ensures;
    }
