use Rattle.ndef_diagnostics.specs.Hints.{AppliesElse}
use Rattle.ndef_diagnostics.specs.declared.hint.Hint.TheVariants.{InTag, Text, MessageAt, AfterBlocks, CodeLeftOut, StandardProfile}
use Rattle.ndef_diagnostics.proofs.Tests.{not_true}
use Rattle.ndef_diagnostics.proofs.hint.other_hint.Goals as goal

pub returns-clause-none : goal.returns-clause-none
returns-clause-none c = λ hint.
    elim hint as (λ h. AppliesElse c.args.limits c.args.bytes.now c.args.refusal h → ⊥) [
      | InTag found ↦ λ a. a
      | Text text ↦ λ a. a
      | MessageAt place ↦ λ a. c.in_default.ensures.none place a
      | AfterBlocks ↦ λ a. not_true c.if-is_after_blocks.false (c.is_after_blocks.ensures.1 a)
      | CodeLeftOut ↦ λ a. not_true c.if-is_code_left_out.false (c.is_code_left_out.ensures.1 a)
      | StandardProfile ↦ λ a. not_true c.if-is_for_standard.false (c.is_for_standard.ensures.1 (a.0, a.2))
    ]
