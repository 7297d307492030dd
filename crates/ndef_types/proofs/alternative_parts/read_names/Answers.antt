use Rattle.std.proofs.Common.{arith}
use Rattle.ndef_types.proofs.AlternativeLemmas.{names_first, names_last, name_step, names_count}
use Rattle.ndef_types.proofs.alternative_parts.read_names.Goals as goal

pub loop-i-init : goal.loop-i-init
loop-i-init c = rw c.new-names.ensures.items (names_first c.args.count c.args.octets.now c.requires)

pub split_counted-requires : goal.split_counted-requires
split_counted-requires c = (name_step _ _ _ _ _ c.loop-i-test.true c.loop-i.invariant).room

pub loop-i-preserved : goal.loop-i-preserved
loop-i-preserved c =
    let s = name_step _ _ _ _ _ c.loop-i-test.true c.loop-i.invariant in
    rw (c.in_ok-push.ensures.items, c.in-Ok.ensures.ok, c.split_counted.ensures.field, c.split_counted.ensures.rest) s.next

pub returns-clause-names : goal.returns-clause-names
returns-clause-names c = names_last _ _ _ _ _ c.loop-i-test.false c.loop-i.invariant

pub returns-clause-few : goal.returns-clause-few
returns-clause-few c = omega (arith, names_count _ _ _ _ (names_last _ _ _ _ _ c.loop-i-test.false c.loop-i.invariant), c.ranges.count)
