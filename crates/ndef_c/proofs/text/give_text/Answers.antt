use Rattle.std.proofs.Common.{subst, ◌≡◌, ◌∙◌, ap, true, false, get_or}
use Rattle.ndef_format.specs.Texts.{is_wide}
use Rattle.ndef_types.specs.Values.{encoded_octets, is_utf16}
use Rattle.ndef_c.specs.Buffers.{Gives}
use Rattle.ndef_c.proofs.Texts.{given_utf8, given_utf16}
use Rattle.ndef_c.proofs.text.give_text.Goals as goal

pub returns-in-Utf8 : goal.returns-in-Utf8
returns-in-Utf8 c =
    let payload = c.args.payload.now in
    let v = c.texts_are_exact.ensures.exact.each payload c.requires.text in
    let octets = c.octets.ensures.value ∙ ap encoded_octets c.new-parts.ensures in
    let narrow : is_wide (get_or payload 0 0) ≡ false = subst (λ s. is_wide (get_or s 0 0) ≡ false) c.new-parts.ensures (c.encoding.ensures ∙ ap is_utf16 c.in-Utf8.is) in
    record {
      in_set = c.requires.text;
      short = c.requires.short;
      text = v.0;
      stands = v.1.1;
      gives = subst (λ p. Gives p c.args.buffer.now c.give.new.buffer c.give.new.count c.give.result) (given_utf8 payload _ v.0 v.1.1 octets narrow) c.give.ensures;
    }

pub give_in_utf8-requires-clause-text : goal.give_in_utf8-requires-clause-text
give_in_utf8-requires-clause-text c =
    let payload = c.args.payload.now in
    let v = c.texts_are_exact.ensures.exact.each payload c.requires.text in
    let octets = c.octets-in-Utf16.ensures.value ∙ ap encoded_octets c.new-parts.ensures in
    let wide : is_wide (get_or payload 0 0) ≡ true = subst (λ s. is_wide (get_or s 0 0) ≡ true) c.new-parts.ensures (c.encoding.ensures ∙ ap is_utf16 c.in-Utf16.is) in
    (v.0.text, given_utf16 payload _ v.0 v.1.1 octets wide _ _ c.unmark-little.ensures.little c.unmark-little.ensures.rest)

pub returns-in-Utf16 : goal.returns-in-Utf16
returns-in-Utf16 c =
    let payload = c.args.payload.now in
    let v = c.texts_are_exact.ensures.exact.each payload c.requires.text in
    let octets = c.octets-in-Utf16.ensures.value ∙ ap encoded_octets c.new-parts.ensures in
    let wide : is_wide (get_or payload 0 0) ≡ true = subst (λ s. is_wide (get_or s 0 0) ≡ true) c.new-parts.ensures (c.encoding.ensures ∙ ap is_utf16 c.in-Utf16.is) in
    let s = given_utf16 payload _ v.0 v.1.1 octets wide _ _ c.unmark-little.ensures.little c.unmark-little.ensures.rest in
    record {
      in_set = c.requires.text;
      short = c.requires.short;
      text = v.0;
      stands = v.1.1;
      gives = c.give_in_utf8.ensures v.0.text s;
    }
