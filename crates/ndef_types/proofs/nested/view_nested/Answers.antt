use Rattle.ndef_format.specs.Reasons.{NoReason}
use Rattle.ndef_types.proofs.NestedLemmas.{is_seen, is_not_refused}
use Rattle.ndef_types.proofs.nested.view_nested.Goals as goal

pub returns : goal.returns
returns c =
    λ table runs items h. is_seen (λ tnf name records profile s b. NoReason) c.nested_limits.result table c.args.profile runs items c.args.bytes.now c.in-Ok.view c.views_are_exact.ensures.one
    c.nested_limits.ensures c.in-Ok.ensures.message h

pub unreachable-requires : goal.unreachable-requires
unreachable-requires c =
    is_not_refused (λ tnf name records profile s b. NoReason) c.nested_limits.result c.requires.0 c.args.profile c.args.bytes.now c.in-Err.field-0 c.views_are_exact.ensures.refused c.nested_limits.ensures
    c.requires.1 c.in-Err.ensures.refused
