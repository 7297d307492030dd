use Rattle.std.proofs.Common.{rules, sym, subst, arith, ◌⊎◌, ◌≡◌, []}
use Rattle.ndef_format.specs.Nested.{Nested}
use Rattle.ndef_format.specs.declared.table.Table.TheVariants.{Select}
use Rattle.ndef_types.proofs.HandoverLemmas.{handover_parts, selected_strict}
use Rattle.ndef_types.proofs.select.read_select.Goals as goal

pub invariant_of-result : goal.invariant_of-result
invariant_of-result c =
    let p = handover_parts Select c.args.profile c.args.payload.now (λ e. cc) c.requires in
    let n = subst (λ s. (s ≡ []) ⊎ Nested Select 65535 c.args.profile s) (sym c.after_first.ensures) p.3 in
    (omega (arith, p.2), selected_strict c.strict_contents_are_read.ensures.handovers c.args.profile c.in_ok-message.message (c.in_ok-message.ensures.contents Select n))

pub returns : goal.returns
returns c = search rules
