use Rattle.std.proofs.Common.{subst, sym}
use Rattle.ndef_lang.specs.Language.{StepsFront}
use Rattle.ndef_lang.specs.Machine.Utf16.{CompletesUtf16, SpelledRest}
use Rattle.ndef_lang.proofs.utf16.Utf16State.take_front.Goals as goal

pub returns : goal.returns
returns c =
    let next = SpelledRest c.in-Whole.little c.whole_front-paired.result.0 in
    subst (λ s. StepsFront (CompletesUtf16 s) next c.args.bytes.now c.whole_front-paired.result.1) (sym c.in-Whole.is) c.whole_front-paired.ensures
