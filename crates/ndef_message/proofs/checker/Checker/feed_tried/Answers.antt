use Rattle.std.proofs.Common.{◌≡◌, length, refl, sym, ◌∙◌, subst, arith}
use Rattle.ndef_format.specs.Limits.{AreInRange}
use Rattle.ndef_lang.specs.StepLaws.{rest_length}
use Rattle.ndef_message.specs.Machine.Checkers.{CheckerReached}
use Rattle.ndef_message.proofs.Feeding as feeding
use Rattle.ndef_message.proofs.checker.Checker.feed_tried.Goals as goal

pub loop-at-init : goal.loop-at-init
loop-at-init g c = record { within = omega arith; limits = refl; sofar = feeding.sofar_start (CheckerReached c.args.self.now) c.args.bytes.now }

pub loop-at-preserved : goal.loop-at-preserved
loop-at-preserved g c =
    let n = c.advance-count.new.self in
    let inv = c.loop-at.invariant in
    let bytes = c.args.bytes.now in
    let at = c.loop-at.at in
    let most = c.advance-count.ensures.most in
    record {
      within = omega (arith, rest_length bytes at);
      limits = c.advance-count.ensures.limits ∙ inv.limits;
      sofar = feeding.sofar_some (CheckerReached c.args.self.now) (CheckerReached c.loop-at.self) (CheckerReached n) bytes at c.advance-count.result.0 inv.sofar c.advance-count.ensures.onward;
    }

pub returns-in-Some-clause-fed : goal.returns-in-Some-clause-fed
returns-in-Some-clause-fed g c =
    let inv = c.loop-at.invariant in
    λ front given point x.
    feeding.feeds_answer c.format_laws.ensures.laws c.loop-at.self (subst AreInRange (sym inv.limits) c.format_laws.ensures.range) c.args.self.now.limits inv.limits front c.args.bytes.now c.loop-at.at
    c.in-Some.answer (sym c.answer.ensures ∙ c.in-Some.is) (omega arith) (inv.sofar front given point x)

pub returns-in-Some-answer-clause-fed : goal.returns-in-Some-answer-clause-fed
returns-in-Some-answer-clause-fed g c =
    let m = c.loop-at.self in
    let inv = c.loop-at.invariant in
    let at : c.loop-at.at ≡ length c.args.bytes.now = omega arith in
    λ front given point x.
    feeding.feeds_answer c.format_laws.ensures.laws m (subst AreInRange (sym inv.limits) c.format_laws.ensures.range) c.args.self.now.limits inv.limits front c.args.bytes.now (length c.args.bytes.now)
    c.in-Some-answer.answer (sym c.answer-2.ensures ∙ c.in-Some-answer.is) (omega arith) (subst (feeding.Here (CheckerReached m) front c.args.bytes.now) at (inv.sofar front given point x))

pub returns-in-None-clause-fed : goal.returns-in-None-clause-fed
returns-in-None-clause-fed g c =
    let m = c.loop-at.self in
    let inv = c.loop-at.invariant in
    let at : c.loop-at.at ≡ length c.args.bytes.now = omega arith in
    λ front given point x.
    feeding.feeds_more c.format_laws.ensures.laws m (subst AreInRange (sym inv.limits) c.format_laws.ensures.range) c.args.self.now.limits inv.limits front c.args.bytes.now (length c.args.bytes.now)
    (sym c.answer-2.ensures ∙ c.in-None.is) refl (subst (feeding.Here (CheckerReached m) front c.args.bytes.now) at (inv.sofar front given point x))
