use Rattle.std.proofs.Common.{rules, ◌≡◌, ◌++◌, sym, None, true, subst, arith}
use Rattle.std.specs.List.{All}
use Rattle.std.specs.Prelude.{IfNone}
use Rattle.std.proofs.lemmas.List.{take_all}
use Rattle.std.proofs.lemmas.List.Elements.{All-more}
use Rattle.ndef_c.specs.Buffers.{Puts}
use Rattle.ndef_c.specs.RecordList.{IsSeries, all_items, left_octets, series_items}
use Rattle.ndef_c.specs.declared.record_list.RecordList.TheVariants.{Nothing}
use Rattle.ndef_c.proofs.Puts.{puts_none, puts_on}
use Rattle.ndef_c.proofs.Several.{step_all, written_none}
use Rattle.ndef_c.proofs.series_writing.put_message.Goals as goal

pub loop-record_list-init : goal.loop-record_list-init
loop-record_list-init c = record { each = search rules; start = c.put.new.self; front = c.put.ensures; written = written_none _ (puts_none c.put.new.self (omega arith)) }

pub put_series-requires-clause-left : goal.put_series-requires-clause-left
put_series-requires-clause-left c =
    let count = c.requires.count in
    (step_all series_items c.args.several.now c.loop-record_list.record_list-index Nothing c.loop-record_list-test.true (omega (arith, count)) c.loop-record_list.invariant.written).left

pub returns-in_err-next-clause-none : goal.returns-in_err-next-clause-none
returns-in_err-next-clause-none c =
    let e : c.from_residual.result ≡ None = search rules in
    subst (λ r. IfNone r (¬ All IsSeries c.args.several.now)) (sym e) (λ each. c.in_err-next.ensures.none (each c.loop-record_list.record_list-index Nothing c.loop-record_list-test.true))

pub loop-record_list-preserved : goal.loop-record_list-preserved
loop-record_list-preserved c =
    let several = c.args.several.now in
    let k = c.loop-record_list.record_list-index in
    let l = c.loop-record_list-test.true in
    let i = c.loop-record_list.invariant in
    let count = c.requires.count in
    record {
      each = All-more IsSeries several k Nothing l i.each c.in_ok-next.ensures.may;
      start = i.start;
      front = i.front;
      written = (step_all series_items several k Nothing l (omega (arith, count)) i.written).on _ _ c.in_ok-next.ensures.some;
    }

pub returns : goal.returns
returns c =
    let i = c.loop-record_list.invariant in
    let all = take_all c.loop-record_list.record_list-index c.args.several.now c.loop-record_list-test.false in
    record {
      none = tt;
      may = subst (All IsSeries) all i.each;
      some = subst (λ s. Puts c.args.out.now (c.args.front.now ++ left_octets true c.args.count (all_items s)) c.loop-record_list.out) all (puts_on i.front i.written.put);
    }
