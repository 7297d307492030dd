use Rattle.std.proofs.Common.{◌∙◌, refl, sym}
use Rattle.ndef_diagnostics.specs.RecordRemarks.{count_carriers}
use Rattle.ndef_diagnostics.proofs.Counts.{counted_none, counted_one}
use Rattle.ndef_diagnostics.proofs.handover_remark.count_carriers.Goals as goal

pub loop-item-preserved-then-is_carrier : goal.loop-item-preserved-then-is_carrier
loop-item-preserved-then-is_carrier c = counted_one count_carriers _ _ c.loop-item.count _ _ _ c.in-Some.ensures.steps (sym c.is_carrier.ensures ∙ c.if-is_carrier.true) refl c.loop-item.invariant

pub loop-item-preserved : goal.loop-item-preserved
loop-item-preserved c = counted_none count_carriers _ _ c.loop-item.count _ _ _ c.in-Some.ensures.steps (sym c.is_carrier.ensures ∙ c.if-is_carrier.false) refl c.loop-item.invariant
