use Rattle.std.proofs.Common.{arith}
use Rattle.ndef_c.proofs.Alternatives.{ac_at, names_count}
use Rattle.ndef_c.proofs.alternative.reference_at.Goals as goal

pub bounds-payload-from : goal.bounds-payload-from
bounds-payload-from c = (ac_at c.args.payload.now c.from.result c.requires c.from.ensures).count_within

pub returns-then-index-count-clause-none : goal.returns-then-index-count-clause-none
returns-then-index-count-clause-none c = λ v s.
    let n = names_count _ _ _ _ ((ac_at c.args.payload.now c.from.result c.requires c.from.ensures).stand v s) in
    let k = c.from-count.ensures in
    let l = c.if-index-count.true in
    omega (arith, n, k, l)
