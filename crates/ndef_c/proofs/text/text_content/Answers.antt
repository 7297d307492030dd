use Rattle.std.proofs.Common.{◌∷◌, ◌++◌, length, refl, sym, ◌∙◌, ap}
use Rattle.ndef_types.specs.Values.{text_payload}
use Rattle.ndef_c.specs.Texts.{asked_text}
use Rattle.ndef_c.proofs.Texts.{utf8_payload}
use Rattle.ndef_c.proofs.text.text_content.Goals as goal

pub returns-then-flags-eq0-clause-payload : goal.returns-then-flags-eq0-clause-payload
returns-then-flags-eq0-clause-payload c =
    let language = c.args.language.now in
    let text = c.args.text.now in
    ap (λ t. length language ∷ (language ++ t)) c.in-Ok.ensures.0 ∙ utf8_payload language text (length language) c.in-Ok.ensures.1 refl
    ∙ ap (λ f. text_payload (asked_text f language text)) (sym c.if-flags-eq0.true)
