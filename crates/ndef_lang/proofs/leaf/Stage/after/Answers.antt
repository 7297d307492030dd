use Rattle.std.proofs.Common.{[], ◌∷◌}
use Rattle.std.specs.Prelude.{IsUtf8}
use Rattle.ndef_format.specs.Texts.{IsUtf16}
use Rattle.ndef_format.specs.declared.reason.Reason.TheVariants as reasons
use Rattle.ndef_lang.specs.Machine.Utf8.{CompletesUtf8}
use Rattle.ndef_lang.specs.Machine.Utf16.{CompletesUtf16}
use Rattle.ndef_lang.proofs.StageLemmas.{text_goes, utf8_lowest, utf16_lowest, may_lead}
use Rattle.ndef_lang.proofs.leaf.Stage.after.Goals as goal

pub returns-in-Utf8-clause-goes : goal.returns-in-Utf8-clause-goes
returns-in-Utf8-clause-goes c p = rw c.in-Utf8.is (text_goes reasons.Utf8 IsUtf8 (CompletesUtf8 c.after.result) (c.args.byte ∷ []) c.after.ensures)

pub returns-in-Utf8-clause-reason : goal.returns-in-Utf8-clause-reason
returns-in-Utf8-clause-reason c p = rw c.in-Utf8.is (utf8_lowest IsUtf8 c.after.result c.args.byte c.after.ensures)

pub returns-in-Utf16-clause-goes : goal.returns-in-Utf16-clause-goes
returns-in-Utf16-clause-goes c p = rw c.in-Utf16.is (text_goes reasons.Utf16 IsUtf16 (CompletesUtf16 c.after-in-Utf16.result) (c.args.byte ∷ []) c.after-in-Utf16.ensures)

pub returns-in-Utf16-clause-reason : goal.returns-in-Utf16-clause-reason
returns-in-Utf16-clause-reason c p = rw c.in-Utf16.is (utf16_lowest IsUtf16 c.after-in-Utf16.result c.args.byte c.after-in-Utf16.ensures)

pub returns-in_default : goal.returns-in_default
returns-in_default c =
    let w = c.in_default in
    let may = may_lead c.args.self c.args.byte w.not-End w.not-Utf8 w.not-Utf16 w.not-Status w.not-UriCode in
    record {
      future = c.field_after-in_default.ensures.future may;
      goes = λ p. c.field_after-in_default.ensures.goes may;
      reason = λ p. c.field_after-in_default.ensures.reason may;
    }
