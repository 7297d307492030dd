use Rattle.std.proofs.Common.{rules}
use Rattle.ndef_format.specs.Kinds.{kind_of, outer_kind}
use Rattle.ndef_nest.proofs.typed.TypedRecordLanguage.is_open.Goals as goal

pub returns-in-Leaf-clause-reached : goal.returns-in-Leaf-clause-reached
returns-in-Leaf-clause-reached c h octets are tnf name records profile s x =
    let y = rw c.in-Leaf.is at x in
    rw c.in-Leaf.is (y.0, c.is_any.ensures.reached h octets are (outer_kind (kind_of tnf name)) records profile s y.1)

pub returns-in-Nest-clause-future : goal.returns-in-Nest-clause-future
returns-in-Nest-clause-future c = search rules

pub returns-in-Nest-clause-reached : goal.returns-in-Nest-clause-reached
returns-in-Nest-clause-reached c = search rules
