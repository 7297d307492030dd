use Rattle.std.proofs.Common.{◌∙◌, refl, sym}
use Rattle.ndef_diagnostics.specs.RecordRemarks.{count_collisions}
use Rattle.ndef_diagnostics.proofs.Counts.{counted_none, counted_one}
use Rattle.ndef_diagnostics.proofs.handover_remark.count_collisions.Goals as goal

pub loop-item-preserved-then-is_collision : goal.loop-item-preserved-then-is_collision
loop-item-preserved-then-is_collision c = counted_one count_collisions _ _ c.loop-item.count _ _ _ c.in-Some.ensures.steps (sym c.is_collision.ensures ∙ c.if-is_collision.true) refl c.loop-item.invariant

pub loop-item-preserved : goal.loop-item-preserved
loop-item-preserved c = counted_none count_collisions _ _ c.loop-item.count _ _ _ c.in-Some.ensures.steps (sym c.is_collision.ensures ∙ c.if-is_collision.false) refl c.loop-item.invariant
