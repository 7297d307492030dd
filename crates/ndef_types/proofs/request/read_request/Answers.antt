use Rattle.std.proofs.Common.{rules, sym, subst, arith}
use Rattle.ndef_format.specs.Nested.{Nested}
use Rattle.ndef_format.specs.declared.table.Table.TheVariants.{Request}
use Rattle.ndef_types.proofs.HandoverLemmas.{request_parts}
use Rattle.ndef_types.proofs.request.read_request.Goals as goal

pub invariant_of-result : goal.invariant_of-result
invariant_of-result c =
    let p = request_parts c.args.profile c.args.payload.now c.requires in
    let n = subst (Nested Request 65535 c.args.profile) (sym c.after_first.ensures) p.3 in
    (omega (arith, p.2), c.strict_contents_are_read.ensures.handovers Request c.args.profile c.in_ok-message.message (λ e. cc) (c.in_ok-message.ensures.contents Request n))

pub returns : goal.returns
returns c = search rules
