use Rattle.std.proofs.Common.{◌∙◌, ap, refl, sym}
use Rattle.std.specs.Prelude.{nat_eq}
use Rattle.std.specs.Cmp.Lexicographic.{pointwise}
use Rattle.ndef_diagnostics.specs.RecordRemarks.{count_id}
use Rattle.ndef_diagnostics.proofs.Counts.{counted_none, counted_one}
use Rattle.ndef_diagnostics.proofs.few.count_id.Goals as goal

pub loop-item-preserved-then-eq : goal.loop-item-preserved-then-eq
loop-item-preserved-then-eq c = counted_one (count_id c.args.id.now) _ _ c.loop-item.count _ _ _ c.in-Some.ensures.steps (sym (c.eq.ensures ∙ ap (λ s. pointwise nat_eq s c.args.id.now) c.id.ensures) ∙ c.if-eq.true) refl c.loop-item.invariant

pub loop-item-preserved : goal.loop-item-preserved
loop-item-preserved c = counted_none (count_id c.args.id.now) _ _ c.loop-item.count _ _ _ c.in-Some.ensures.steps (sym (c.eq.ensures ∙ ap (λ s. pointwise nat_eq s c.args.id.now) c.id.ensures) ∙ c.if-eq.false) refl c.loop-item.invariant
