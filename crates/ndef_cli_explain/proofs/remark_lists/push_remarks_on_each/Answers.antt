use Rattle.std.proofs.Common.{◌≡◌, ◌++◌, ap, append-nil, append_assoc, arith, length, rules, subst, sym}
use Rattle.ndef_cli_explain.specs.RemarkLists.{AreRemarksOn}
use Rattle.ndef_cli_explain.proofs.EachRun.{KeepsOn, keeps_first, keeps_last, keeps_next}
use Rattle.ndef_cli_explain.proofs.remark_lists.push_remarks_on_each.Goals as goal

pub loop-item-init : goal.loop-item-init
loop-item-init c =
    let few = c.items-item-items.ensures.few in
    let runs = c.args.message.now.runs in
    let old = c.args.remarks.now.items in
    let same : c.into_iter-item-iterator.result ≡ runs = search (c.into_iter-item-iterator.ensures, c.items-item-items.ensures.value, rules) in
    let n = ap length same in
    record {
      keeps = subst (λ rest. KeepsOn ◌++◌ (AreRemarksOn runs) 1 runs rest 1 old old) (sym same) (keeps_first ◌++◌ (AreRemarksOn runs) 1 runs old (append-nil old));
      few = omega (arith, few, n);
    }

pub loop-item-preserved : goal.loop-item-preserved
loop-item-preserved c =
    let i = c.loop-item.invariant in
    let steps = c.in-Some.ensures.steps in
    let n = ap length steps in
    let few = i.few in
    let runs = c.args.message.now.runs in
    let old = c.args.remarks.now.items in
    let keeps = subst (λ rest. KeepsOn ◌++◌ (AreRemarksOn runs) 1 runs rest c.loop-item.number old c.loop-item.remarks.items) steps i.keeps in
    record {
      keeps = keeps_next ◌++◌ (AreRemarksOn runs) 1 runs c.next.new.self c.in-Some.item c.loop-item.number old c.loop-item.remarks.items c.push_remarks_on.new.remarks.items
          (λ one more. sym (append_assoc old one more)) keeps c.in_ok-push_remarks_on.ensures;
      few = omega (arith, n, few);
    }

pub returns : goal.returns
returns c =
    let runs = c.args.message.now.runs in
    keeps_last ◌++◌ (AreRemarksOn runs) 1 runs c.loop-item.item-iterator c.loop-item.number c.args.remarks.now.items c.loop-item.remarks.items c.loop-item.invariant.keeps
    c.in-None.ensures.steps.0
