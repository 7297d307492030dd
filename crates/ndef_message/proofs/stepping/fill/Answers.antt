use Rattle.std.proofs.Common.{◌≡◌, ◌+◌, ◌-◌, ◌++◌, inl, arith, ap, length, length-drop, subst, ◌∙◌, sym, true}
use Rattle.std.specs.Prelude.{[]}
use Rattle.ndef_message.specs.Machine.Stepping.{PutsAt}
use Rattle.ndef_message.specs.Steps.{is_over}
use Rattle.ndef_message.proofs.Putting.{nothing_put, puts_none, puts_on}
use Rattle.ndef_message.proofs.RecordSteps.{over_tells, steps_none, steps_then, steps_within}
use Rattle.ndef_message.proofs.stepping.fill.Goals.{then-steps-test+else-not-is_over, else-steps-test, then-steps-test+then-not-is_over+then-next-eq0}
use Rattle.ndef_message.proofs.stepping.fill.Goals as goal

pub steps-init : goal.steps-init
steps-init c =
    let a = c.args in
    record {
      text = [];
      from = omega arith;
      puts = subst (PutsAt a.at [] a.buffer.now a.buffer.now) (omega arith) (puts_none a.at a.buffer.now c.requires.at);
      steps = steps_none a.plan.now a.kind.now a.id.now a.part.now a.progress;
      is = c.requires.is;
    }

pub step-next-requires-clause-part : goal.step-next-requires-clause-part
step-next-requires-clause-part c = rw c.rest_of-rest.ensures (steps_within c.steps.invariant.steps c.requires.part)

pub steps-preserved : goal.steps-preserved
steps-preserved c =
    let a = c.args in
    let i = c.steps.invariant in
    let from = i.from in
    let n = c.step-next in
    let on : a.at + (c.steps.end - a.at) ≡ c.steps.end = omega (arith, from) in
    let count : (c.steps.end - a.at) + n.result.count ≡ c.steps.end + n.result.count - a.at = omega (arith, from) in
    let text = i.text ++ n.ensures.steps.0 in
    record {
      text = text;
      from = omega (arith, from);
      puts = subst (PutsAt a.at text a.buffer.now n.new.buffer) count
          (puts_on i.puts (subst (λ k. PutsAt k n.ensures.steps.0 c.steps.buffer n.new.buffer n.result.count) (sym on) n.ensures.steps.1));
      steps = steps_then i.steps c.rest_of-rest.ensures n.ensures.steps.2;
      is = n.ensures.is;
    }

buffer_is : (c : goal.Left-steps) → c.steps-test.buffer ≡ c.steps.buffer
buffer_is c = elim c.steps-test.branch [
  | then-steps-test+else-not-is_over w ↦ w.buffer-is
  | else-steps-test w ↦ w.buffer-is
  | then-steps-test+then-not-is_over+then-next-eq0 w ↦ w.buffer-is ∙ nothing_put (subst (PutsAt c.steps.end w.step-next.ensures.steps.0 c.steps.buffer w.step-next.new.buffer) w.if-next-eq0.true w.step-next.ensures.steps.1)
]

pub returns-clause-steps : goal.returns-clause-steps
returns-clause-steps c =
    let i = c.steps.invariant in
    (i.text, subst (λ b. PutsAt c.args.at i.text c.args.buffer.now b (c.steps.end - c.args.at)) (sym (buffer_is c)) i.puts, i.steps)

pub returns-clause-is : goal.returns-clause-is
returns-clause-is c = c.steps.invariant.is

pub returns-clause-full : goal.returns-clause-full
returns-clause-full c = λ space.
    let a = c.args in
    let i = c.steps.invariant in
    let from = i.from in
    let f = i.steps.from in
    let g = i.steps.to in
    let there = c.requires.part in
    let same = c.steps.auto.buffer in
    elim c.steps-test.branch [
      | then-steps-test+else-not-is_over w ↦
          let over : is_over a.plan.now c.steps.reached ≡ true = sym w.is_over.ensures ∙ w.if-not-is_over.false in
          let end = over_tells a.plan.now c.steps.reached over in
          (omega (arith, f, g, there, end.1), inl over)
      | else-steps-test w ↦ let full = w.steps-test.false in absurd (omega (arith, full, space, from, same))
      | then-steps-test+then-not-is_over+then-next-eq0 w ↦
          let none = w.step-next.ensures.none w.if-next-eq0.true w.steps-test.true in
          let n = ap length (sym w.rest_of-rest.ensures ∙ none.0) in
          let d = length-drop (c.steps.reached.taken - a.progress.taken) a.part.now in
          (omega (arith, f, g, n, d), none.1)
    ]
