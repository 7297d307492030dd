use Rattle.std.proofs.Common.{◌∙◌, refl, sym}
use Rattle.ndef_diagnostics.specs.RecordRemarks.{count_language}
use Rattle.ndef_diagnostics.proofs.Counts.{counted_none, counted_one}
use Rattle.ndef_diagnostics.proofs.poster_remark.count_language.Goals as goal

pub loop-item-preserved-then-is_title_in : goal.loop-item-preserved-then-is_title_in
loop-item-preserved-then-is_title_in c = counted_one (count_language c.args.language.now) _ _ c.loop-item.count _ _ _ c.in-Some.ensures.steps (sym c.is_title_in.ensures ∙ c.if-is_title_in.true) refl c.loop-item.invariant

pub loop-item-preserved : goal.loop-item-preserved
loop-item-preserved c = counted_none (count_language c.args.language.now) _ _ c.loop-item.count _ _ _ c.in-Some.ensures.steps (sym c.is_title_in.ensures ∙ c.if-is_title_in.false) refl c.loop-item.invariant
