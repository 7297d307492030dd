use Rattle.std.proofs.Common.{◌≡◌, ap, arith, length, refl, rules, subst, sym}
use Rattle.std.proofs.lemmas.List.Sums.{fold-append}
use Rattle.ndef_cli_explain.specs.Outputs.{with_value, with_values}
use Rattle.ndef_cli_explain.specs.RecordObjects.{IsRecordObject}
use Rattle.ndef_cli_explain.proofs.EachRun.{KeepsOn, keeps_first, keeps_last, keeps_next}
use Rattle.ndef_cli_explain.proofs.record_objects.push_record_objects.Goals as goal

pub loop-item-init : goal.loop-item-init
loop-item-init c =
    let few = c.items-item-items.ensures.few in
    let runs = c.args.message.now.runs in
    let out = c.args.out.now in
    let same : c.into_iter-item-iterator.result ≡ runs = search (c.into_iter-item-iterator.ensures, c.items-item-items.ensures.value, rules) in
    let n = ap length same in
    record {
      keeps = subst (λ rest. KeepsOn with_values IsRecordObject 1 runs rest 1 out out) (sym same) (keeps_first with_values IsRecordObject 1 runs out refl);
      few = omega (arith, few, n);
    }

pub loop-item-preserved : goal.loop-item-preserved
loop-item-preserved c =
    let i = c.loop-item.invariant in
    let steps = c.in-Some.ensures.steps in
    let n = ap length steps in
    let few = i.few in
    let runs = c.args.message.now.runs in
    let keeps = subst (λ rest. KeepsOn with_values IsRecordObject 1 runs rest c.loop-item.number c.args.out.now c.loop-item.out) steps i.keeps in
    record {
      keeps = keeps_next with_values IsRecordObject 1 runs c.next.new.self c.in-Some.item c.loop-item.number c.args.out.now c.loop-item.out c.push_record_object.new.out
          (fold-append with_value c.args.out.now) keeps c.in_ok-push_record_object.ensures;
      few = omega (arith, n, few);
    }

pub returns : goal.returns
returns c =
    keeps_last with_values IsRecordObject 1 c.args.message.now.runs c.loop-item.item-iterator c.loop-item.number c.args.out.now c.loop-item.out c.loop-item.invariant.keeps c.in-None.ensures.steps.0
