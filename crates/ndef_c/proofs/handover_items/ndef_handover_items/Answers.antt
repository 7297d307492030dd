use Rattle.std.proofs.Common.{rules, subst}
use Rattle.ndef_format.specs.Nested.{IsNest}
use Rattle.ndef_c.specs.Checks.{profile_of}
use Rattle.ndef_c.proofs.ReferenceLists.{nest_carriers}
use Rattle.ndef_c.proofs.handover_items.ndef_handover_items.Goals as goal

pub give_items-requires-clause-carriers : goal.give_items-requires-clause-carriers
give_items-requires-clause-carriers c =
    let profile = profile_of c.args.flags in
    let nest = subst (λ t. IsNest t 65535 profile c.args.payload.now) c.kind_with.ensures.table (c.accepts.ensures.payload (search (rules, c.if-not-accepts.false))) in
    let n = nest_carriers c.in-Some.table profile c.args.payload.now c.in-Some.ensures.handover nest in
    (profile, n.0, n.1)

pub returns-clause-references : goal.returns-clause-references
returns-clause-references c = λ _.
    let profile = profile_of c.args.flags in
    let nest = subst (λ t. IsNest t 65535 profile c.args.payload.now) c.kind_with.ensures.table (c.accepts.ensures.payload (search (rules, c.if-not-accepts.false))) in
    let n = nest_carriers c.in-Some.table profile c.args.payload.now c.in-Some.ensures.handover nest in
    c.give_items.ensures.gives profile n.0 n.1
