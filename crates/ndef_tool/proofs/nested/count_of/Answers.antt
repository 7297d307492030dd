use Rattle.ndef_tool.proofs.Counting.{all_counted, one_counted}
use Rattle.ndef_tool.proofs.nested.count_of.Goals as goal

pub loop-rest-preserved-then-is_kind : goal.loop-rest-preserved-then-is_kind
loop-rest-preserved-then-is_kind c =
    one_counted c.args.kind c.args.members.now c.loop-rest.rest.now _ c.loop-rest.count c.in-len1-up.len_at_least (c.is_kind.ensures.0 c.if-is_kind.true) c.loop-rest.invariant

pub returns : goal.returns
returns c = all_counted c.args.kind c.args.members.now c.loop-rest.rest.now c.loop-rest.count c.in_default.len_below c.loop-rest.invariant
