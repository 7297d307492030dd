use Rattle.std.proofs.Common.{◌≡◌, ◌-◌, ◌++◌, length, take, refl, sym, ◌∙◌, ap, subst, arith}
use Rattle.std.proofs.Math.Logic.{∥∥₁_map}
use Rattle.ndef_value.specs.ListLaws.{octets_taken}
use Rattle.ndef_lang.specs.StepLaws.{octets_each}
use Rattle.ndef_message.specs.Opened.{Opened}
use Rattle.ndef_message.specs.Machine.Open.{opened_item, opened_after, HasRoom, WantsMemory}
use Rattle.ndef_message.specs.declared.phase.Phase.TheVariants as phases
use Rattle.ndef_message.proofs.Decoded as decoded
use Rattle.ndef_message.proofs.Somewhere as somewhere
use Rattle.ndef_message.proofs.Taking as taking
use Rattle.ndef_message.proofs.decoder.Decoder.take_some.Goals as goal

pub keep-requires : goal.keep-requires
keep-requires g c =
    let s = c.args.self.now in
    let laws = c.format_laws.ensures in
    let step = c.step-count.ensures in
    let t = take c.step-count.result c.args.bytes.now in
    let after = c.step-count.new.self.state.phase in
    let is_kept = ap (λ n. take n c.args.bytes.now) c.accepted.ensures ∙ taking.kept_taken after c.args.bytes.now c.step-count.result step.most in
    record { room = somewhere.room_of_some _ s.checker.state.phase s.begun _ s.led (λ w. subst (HasRoom s.checker.state.phase s.begun) (sym is_kept) (taking.has_room laws.laws s.checker c.step-count.new.self step.limits laws.range c.requires.unfailed c.requires.going s.begun t (octets_taken c.step-count.result c.args.bytes.now (octets_each _ c.type_inv.bytes)) (taking.some_taken c.args.bytes.now c.step-count.result step.most step.some) step.onward w.0 w.1 w.2 w.3)) }

pub invariant_of-self : goal.invariant_of-self
invariant_of-self g c = record { led = ∥∥₁_map c.requires.begun (λ w. (w.0, w.1, w.2, (decoded.failed_same _ _ _ c.step-count.ensures.limits _ w.0 w.1 w.2 w.3, c.new.ensures))) }

pub returns-in_default : goal.returns-in_default
returns-in_default g c =
    let s = c.args.self.now in
    let laws = c.format_laws.ensures in
    let step = c.step-count.ensures in
    let t = take c.step-count.result c.args.bytes.now in
    let counted : c.step-count.new.self.taken - s.checker.taken ≡ c.step-count.result = (let n = step.taken in omega arith) in
    let after = c.step-count.new.self.state.phase in
    let is_kept = ap (λ n. take n c.args.bytes.now) c.accepted.ensures ∙ taking.kept_taken after c.args.bytes.now c.step-count.result step.most in
    record {
      limits = step.limits;
      some = (let n = step.taken in let m = step.some in omega arith);
      most = (let n = step.taken in let m = step.most in omega arith);
      unfailed = λ h. absurd (h refl);
      failed = λ h. (refl, c.new.ensures);
      going = λ h. cc;
      refused = λ refusal h. cc;
      takes = λ front given point was.
          rw counted (taking.wanted laws.laws s.checker c.step-count.new.self step.limits laws.range c.requires.unfailed c.requires.going s.begun t (octets_taken c.step-count.result c.args.bytes.now (octets_each _ c.type_inv.bytes)) (taking.some_taken c.args.bytes.now c.step-count.result step.most step.some) step.onward front given point was (subst (WantsMemory s.checker.state.phase s.begun) is_kept (taking.if_refused _ _ c.keep.ensures.wanted c.in_default.not-Ok)));
    }

pub invariant_of-self-in-Refused-1 : goal.invariant_of-self-in-Refused-1
invariant_of-self-in-Refused-1 g c =
    let s = c.args.self.now in
    let laws = c.format_laws.ensures in
    let step = c.step-count.ensures in
    let t = take c.step-count.result c.args.bytes.now in
    let after = c.step-count.new.self.state.phase in
    let is_kept = ap (λ n. take n c.args.bytes.now) c.accepted.ensures ∙ taking.kept_taken after c.args.bytes.now c.step-count.result step.most in
    let kept = c.in-Ok.ensures.ok ∙ ap (opened_after s.checker.state.phase s.begun) is_kept in
    record {
      led = ∥∥₁_map s.led (λ w.
          let x = taking.refused_known laws.laws s.checker c.step-count.new.self step.limits laws.range c.requires.unfailed c.requires.going s.begun t (octets_taken c.step-count.result c.args.bytes.now (octets_each _ c.type_inv.bytes)) (taking.some_taken c.args.bytes.now c.step-count.result step.most step.some) step.onward w.0 w.1 w.2 w.3 c.in-Refused.refusal c.in-Refused.is kept in
          (w.0 ++ t, w.1, x.1.0, x.1.1));
    }

pub returns-in-Refused : goal.returns-in-Refused
returns-in-Refused g c =
    let s = c.args.self.now in
    let laws = c.format_laws.ensures in
    let step = c.step-count.ensures in
    let t = take c.step-count.result c.args.bytes.now in
    let counted : c.step-count.new.self.taken - s.checker.taken ≡ c.step-count.result = (let n = step.taken in omega arith) in
    let after = c.step-count.new.self.state.phase in
    let is_kept = ap (λ n. take n c.args.bytes.now) c.accepted.ensures ∙ taking.kept_taken after c.args.bytes.now c.step-count.result step.most in
    let kept = c.in-Ok.ensures.ok ∙ ap (opened_after s.checker.state.phase s.begun) is_kept in
    record {
      limits = step.limits;
      some = (let n = step.taken in let m = step.some in omega arith);
      most = (let n = step.taken in let m = step.most in omega arith);
      unfailed = λ h. c.requires.unfailed;
      failed = λ h. cc;
      going = λ h. cc;
      refused = λ refusal h. c.in-Refused.is ∙ (let e : c.in-Refused.refusal ≡ refusal = cc in ap (λ r. phases.Refused r) e);
      takes = λ front given point was.
          rw counted (taking.refused_known laws.laws s.checker c.step-count.new.self step.limits laws.range c.requires.unfailed c.requires.going s.begun t (octets_taken c.step-count.result c.args.bytes.now (octets_each _ c.type_inv.bytes)) (taking.some_taken c.args.bytes.now c.step-count.result step.most step.some) step.onward front given point was c.in-Refused.refusal c.in-Refused.is kept);
    }

pub invariant_of-self-then-ended_records-ended : goal.invariant_of-self-then-ended_records-ended
invariant_of-self-then-ended_records-ended g c =
    let s = c.args.self.now in
    let laws = c.format_laws.ensures in
    let step = c.step-count.ensures in
    let t = take c.step-count.result c.args.bytes.now in
    let after = c.step-count.new.self.state.phase in
    let is_kept = ap (λ n. take n c.args.bytes.now) c.accepted.ensures ∙ taking.kept_taken after c.args.bytes.now c.step-count.result step.most in
    let kept = c.in-Ok.ensures.ok ∙ ap (opened_after s.checker.state.phase s.begun) is_kept in
    record {
      led = ∥∥₁_map s.led (λ w.
          let x = taking.more_known laws.laws s.checker c.step-count.new.self step.limits laws.range c.requires.unfailed c.requires.going s.begun t (octets_taken c.step-count.result c.args.bytes.now (octets_each _ c.type_inv.bytes)) (taking.some_taken c.args.bytes.now c.step-count.result step.most step.some) step.onward w.0 w.1 w.2 w.3 c.in_default-after.not-Refused c.ended_records-ended.ensures c.ended_records.ensures kept c.if-ended_records-ended.true in
          (w.0 ++ t, w.1, x.0, x.1));
    }

pub returns-then-ended_records-ended : goal.returns-then-ended_records-ended
returns-then-ended_records-ended g c =
    let s = c.args.self.now in
    let laws = c.format_laws.ensures in
    let step = c.step-count.ensures in
    let t = take c.step-count.result c.args.bytes.now in
    let counted : c.step-count.new.self.taken - s.checker.taken ≡ c.step-count.result = (let n = step.taken in omega arith) in
    let after = c.step-count.new.self.state.phase in
    let is_kept = ap (λ n. take n c.args.bytes.now) c.accepted.ensures ∙ taking.kept_taken after c.args.bytes.now c.step-count.result step.most in
    let kept = c.in-Ok.ensures.ok ∙ ap (opened_after s.checker.state.phase s.begun) is_kept in
    record {
      limits = step.limits;
      some = (let n = step.taken in let m = step.some in omega arith);
      most = (let n = step.taken in let m = step.most in omega arith);
      unfailed = λ h. c.requires.unfailed;
      failed = λ h. cc;
      going = λ h. taking.none_due _ (λ done. somewhere.never_some _ s.led (λ w. taking.more_open laws.laws s.checker c.step-count.new.self step.limits laws.range c.requires.unfailed c.requires.going s.begun t (octets_taken c.step-count.result c.args.bytes.now (octets_each _ c.type_inv.bytes)) (taking.some_taken c.args.bytes.now c.step-count.result step.most step.some) step.onward w.0 w.1 w.2 w.3 c.in_default-after.not-Refused c.ended_records-ended.ensures c.ended_records.ensures kept c.if-ended_records-ended.true done)) c.in_default-after.not-Refused;
      refused = λ refusal h. cc;
      takes = λ front given point was. rw counted (taking.more_known laws.laws s.checker c.step-count.new.self step.limits laws.range c.requires.unfailed c.requires.going s.begun t (octets_taken c.step-count.result c.args.bytes.now (octets_each _ c.type_inv.bytes)) (taking.some_taken c.args.bytes.now c.step-count.result step.most step.some) step.onward front given point was c.in_default-after.not-Refused c.ended_records-ended.ensures c.ended_records.ensures kept c.if-ended_records-ended.true);
    }

pub invariant_of-self-2 : goal.invariant_of-self-2
invariant_of-self-2 g c =
    let s = c.args.self.now in
    let laws = c.format_laws.ensures in
    let step = c.step-count.ensures in
    let t = take c.step-count.result c.args.bytes.now in
    let after = c.step-count.new.self.state.phase in
    let is_kept = ap (λ n. take n c.args.bytes.now) c.accepted.ensures ∙ taking.kept_taken after c.args.bytes.now c.step-count.result step.most in
    let kept = c.in-Ok.ensures.ok ∙ ap (opened_after s.checker.state.phase s.begun) is_kept in
    record {
      led = ∥∥₁_map s.led (λ w.
          let x = taking.whole_known laws.laws s.checker c.step-count.new.self step.limits laws.range c.requires.unfailed c.requires.going s.begun t (octets_taken c.step-count.result c.args.bytes.now (octets_each _ c.type_inv.bytes)) (taking.some_taken c.args.bytes.now c.step-count.result step.most step.some) step.onward w.0 w.1 w.2 w.3 c.in_default-after.not-Refused c.ended_records-ended.ensures c.ended_records.ensures kept c.if-ended_records-ended.false refl refl c.replace-begun.new.dest (c.replace-begun.ensures.after ∙ c.new-2.ensures) in
          (w.0 ++ t, _, x.2.0, x.2.1));
    }

pub record-requires : goal.record-requires
record-requires g c =
    let s = c.args.self.now in
    let laws = c.format_laws.ensures in
    let step = c.step-count.ensures in
    let t = take c.step-count.result c.args.bytes.now in
    let after = c.step-count.new.self.state.phase in
    let is_kept = ap (λ n. take n c.args.bytes.now) c.accepted.ensures ∙ taking.kept_taken after c.args.bytes.now c.step-count.result step.most in
    let kept = c.in-Ok.ensures.ok ∙ ap (opened_after s.checker.state.phase s.begun) is_kept in
    let is = c.replace-begun.ensures.value in
    record {
      shape = rw is (somewhere.shaped_of_some _ _ s.led (λ w. taking.item_shaped laws.laws s.checker c.step-count.new.self step.limits laws.range c.requires.unfailed c.requires.going s.begun t (octets_taken c.step-count.result c.args.bytes.now (octets_each _ c.type_inv.bytes)) (taking.some_taken c.args.bytes.now c.step-count.result step.most step.some) step.onward w.0 w.1 w.2 w.3 c.in_default-after.not-Refused c.ended_records-ended.ensures c.ended_records.ensures kept c.if-ended_records-ended.false));
      payload =
          let e = ap (λ (o : Opened). length o.payload) is in
          let n = somewhere.number_of_some _ _ _ s.led (λ w. taking.item_small laws.laws s.checker c.step-count.new.self step.limits laws.range c.requires.unfailed c.requires.going s.begun t (octets_taken c.step-count.result c.args.bytes.now (octets_each _ c.type_inv.bytes)) (taking.some_taken c.args.bytes.now c.step-count.result step.most step.some) step.onward w.0 w.1 w.2 w.3 c.in_default-after.not-Refused c.ended_records-ended.ensures c.ended_records.ensures kept c.if-ended_records-ended.false) in
          omega arith;
    }

pub returns : goal.returns
returns g c =
    let s = c.args.self.now in
    let laws = c.format_laws.ensures in
    let step = c.step-count.ensures in
    let t = take c.step-count.result c.args.bytes.now in
    let counted : c.step-count.new.self.taken - s.checker.taken ≡ c.step-count.result = (let n = step.taken in omega arith) in
    let after = c.step-count.new.self.state.phase in
    let is_kept = ap (λ n. take n c.args.bytes.now) c.accepted.ensures ∙ taking.kept_taken after c.args.bytes.now c.step-count.result step.most in
    let kept = c.in-Ok.ensures.ok ∙ ap (opened_after s.checker.state.phase s.begun) is_kept in
    record {
      limits = step.limits;
      some = (let n = step.taken in let m = step.some in omega arith);
      most = (let n = step.taken in let m = step.most in omega arith);
      unfailed = λ h. c.requires.unfailed;
      failed = λ h. cc;
      going = λ h. cc;
      refused = λ refusal h. cc;
      takes = λ front given point was.
          rw counted (taking.whole_known laws.laws s.checker c.step-count.new.self step.limits laws.range c.requires.unfailed c.requires.going s.begun t (octets_taken c.step-count.result c.args.bytes.now (octets_each _ c.type_inv.bytes)) (taking.some_taken c.args.bytes.now c.step-count.result step.most step.some) step.onward front given point was c.in_default-after.not-Refused c.ended_records-ended.ensures c.ended_records.ensures kept c.if-ended_records-ended.false (c.record.ensures ∙ ap opened_item c.replace-begun.ensures.value) (sym c.is_done.ensures) c.replace-begun.new.dest (c.replace-begun.ensures.after ∙ c.new-2.ensures));
    }
