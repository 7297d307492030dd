use Rattle.std.proofs.Common.{refl, sym, ◌∙◌, ap, get_or, length}
use Rattle.ndef_format.specs.Records.{bit}
use Rattle.ndef_format.specs.Texts.{is_wide}
use Rattle.ndef_types.specs.Values.{encoded_octets, language_octets}
use Rattle.ndef_c.proofs.Texts.{parts_lie}
use Rattle.ndef_c.proofs.text.text_at.Goals as goal

pub returns : goal.returns
returns c =
    let e = c.new-parts.ensures in
    let language = ap length (c.language-language_length.ensures.value ∙ ap language_octets e) in
    let text = ap length (c.octets.ensures.value ∙ ap encoded_octets e) in
    let p = parts_lie c.args.payload.now _ _ c.requires.text language text in
    record {
      in_set = c.requires.text;
      short = c.requires.short;
      language = p.language;
      text = p.text;
      language_place = refl;
      text_place = refl;
      utf16 = c.utf16_flag.ensures ∙ ap bit (sym c.encoding.ensures ∙ ap (λ s. is_wide (get_or s 0 0)) e);
    }
