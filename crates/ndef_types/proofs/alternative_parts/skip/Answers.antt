use Rattle.std.proofs.Common.{arith, subst, ◌≡◌}
use Rattle.ndef_types.proofs.AlternativeLemmas.{Skipped, skip_first, skip_left, skip_step}
use Rattle.ndef_types.proofs.alternative_parts.skip.Goals as goal

pub loop-i-init : goal.loop-i-init
loop-i-init c = skip_first c.args.count c.args.octets.now c.requires.references

pub split_counted-requires : goal.split_counted-requires
split_counted-requires c = (skip_step _ _ _ _ (omega (arith, c.loop-i-test.true, c.requires.some)) c.loop-i.invariant).room

pub loop-i-preserved : goal.loop-i-preserved
loop-i-preserved c = rw c.split_counted.ensures.rest (skip_step _ _ _ _ (omega (arith, c.loop-i-test.true, c.requires.some)) c.loop-i.invariant).next

pub returns-clause-references : goal.returns-clause-references
returns-clause-references c =
    let e : c.loop-i._i ≡ c.args.skipped = omega (arith, c.loop-i-test.false) in
    (skip_left _ _ _ _ (subst (λ i. Skipped c.args.count i c.args.octets.now c.loop-i.left.now) e c.loop-i.invariant)).are

pub returns-clause-left : goal.returns-clause-left
returns-clause-left c =
    let e : c.loop-i._i ≡ c.args.skipped = omega (arith, c.loop-i-test.false) in
    (skip_left _ _ _ _ (subst (λ i. Skipped c.args.count i c.args.octets.now c.loop-i.left.now) e c.loop-i.invariant)).stand
