use Rattle.std.proofs.Common.{◌≡◌, ap, arith, length, rules, subst, sym}
use Rattle.ndef_format.specs.Messages.{run_record}
use Rattle.ndef_cli_explain.specs.Forms.{style_form}
use Rattle.ndef_cli_explain.specs.Payloads.{AreJoinedBy, with_payloads}
use Rattle.ndef_cli_explain.proofs.EachRun.{KeepsOn, keeps_first, keeps_last, keeps_next}
use Rattle.ndef_cli_explain.proofs.JoinedPayloads.{payloads_more}
use Rattle.ndef_cli_explain.proofs.OutputParts.{either_none}
use Rattle.ndef_cli_explain.proofs.payloads.push_payloads.Goals as goal

pub loop-item-init : goal.loop-item-init
loop-item-init c =
    let form = style_form c.args.style in
    let put = with_payloads form in
    let few = c.requires.few in
    let out = c.args.out.now in
    let same : c.into_iter-item-iterator.result ≡ c.args.items = search (c.into_iter-item-iterator.ensures, rules) in
    let n = ap length same in
    record {
      keeps = subst (λ rest. KeepsOn put (λ number run. AreJoinedBy number (run_record run) run.later) c.args.first c.args.items rest c.args.first out out) (sym same)
          (keeps_first put (λ number run. AreJoinedBy number (run_record run) run.later) c.args.first c.args.items out (either_none form out));
      few = omega (arith, few, n);
    }

pub loop-item-preserved : goal.loop-item-preserved
loop-item-preserved c =
    let i = c.loop-item.invariant in
    let form = style_form c.args.style in
    let put = with_payloads form in
    let steps = c.in-Some.ensures.steps in
    let n = ap length steps in
    let few = i.few in
    let keeps = subst (λ rest. KeepsOn put (λ number run. AreJoinedBy number (run_record run) run.later) c.args.first c.args.items rest c.loop-item.number c.args.out.now c.loop-item.out) steps i.keeps in
    record {
      keeps = keeps_next put (λ number run. AreJoinedBy number (run_record run) run.later) c.args.first c.args.items c.next.new.self c.in-Some.item c.loop-item.number c.args.out.now c.loop-item.out c.push_payload.new.out
          (payloads_more form c.args.out.now) keeps c.in_ok-push_payload.ensures;
      few = omega (arith, n, few);
    }

pub returns : goal.returns
returns c =
    keeps_last (with_payloads (style_form c.args.style)) (λ number run. AreJoinedBy number (run_record run) run.later) c.args.first c.args.items c.loop-item.item-iterator c.loop-item.number c.args.out.now c.loop-item.out
    c.loop-item.invariant.keeps c.in-None.ensures.steps.0
