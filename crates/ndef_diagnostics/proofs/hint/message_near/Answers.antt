use Rattle.std.proofs.Common.{ℕ, ◌≤◌, drop, arith, rules, below_more, sym, subst}
use Rattle.std.specs.Bool.{IsTrue}
use Rattle.ndef_diagnostics.specs.Hints.{BeginsWithMessage}
use Rattle.ndef_diagnostics.proofs.hint.message_near.Goals as goal

pub loop-place-preserved : goal.loop-place-preserved
loop-place-preserved c =
    let None : ℕ → Type 0 = λ k. 1 ≤ k → ¬ BeginsWithMessage c.args.limits (drop k c.args.bytes.now) in
    let none_here : ¬ BeginsWithMessage c.args.limits (drop c.loop-place.place c.args.bytes.now) =
    λ h.
    let t = c.begins.ensures.1 (subst (BeginsWithMessage c.args.limits) (sym c.after.ensures) h) in
    let q = subst IsTrue c.if-begins.false t in
    search rules in
    λ k some less. below_more None c.loop-place.place (λ j below s. c.loop-place.invariant j s below) (λ s. none_here) k less some

pub returns-clause-none : goal.returns-clause-none
returns-clause-none c = λ place near. c.loop-place.invariant place near.some (let n = near.near in omega arith) near.begins
