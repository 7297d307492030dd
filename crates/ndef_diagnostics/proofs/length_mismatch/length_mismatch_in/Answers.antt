use Rattle.std.proofs.Common.{◌≡◌, ◌-◌, ◌∙◌, ap, ap₂, arith, sym}
use Rattle.ndef_value.specs.SliceLaws.{rest_from}
use Rattle.ndef_lang.specs.declared.leaf.Leaf.TheVariants.{Field}
use Rattle.ndef_diagnostics.specs.LengthMismatches.{length_mismatch_in}
use Rattle.ndef_diagnostics.proofs.LengthMismatches.{field_step, some_more, stage_step}
use Rattle.ndef_diagnostics.proofs.length_mismatch.length_mismatch_in.Goals as goal

pub loop-rest-preserved-then-count-gt0 : goal.loop-rest-preserved-then-count-gt0
loop-rest-preserved-then-count-gt0 c =
    let f = c.in-Field in
    let s = c.loop-rest.rest.now in
    ap (λ n. length_mismatch_in (Field (f.count - 1) f.class f.next) n (rest_from 1 s)) c.saturating_sub-left.ensures
    ∙ (field_step c.loop-rest.leaf f.count f.class f.next c.loop-rest.left s f.is (omega arith) c.in-len1-up.len_at_least
    ∙ c.loop-rest.invariant)

pub loop-rest-preserved : goal.loop-rest-preserved
loop-rest-preserved c =
    let f = c.in-Field in
    let s = c.loop-rest.rest.now in
    let none : f.count ≡ 0 = omega arith in
    let is = f.is ∙ ap (λ n. Field n f.class f.next) none in
    ap₂ (λ leaf n. length_mismatch_in leaf n (rest_from 1 s)) c.field_after-leaf.ensures.value c.saturating_sub-left.ensures
    ∙ (stage_step c.loop-rest.leaf f.class f.next c.loop-rest.left s is c.in-len1-up.len_at_least (some_more _ (sym c.is_empty.ensures ∙ c.if-is_empty.false))
    ∙ c.loop-rest.invariant)
