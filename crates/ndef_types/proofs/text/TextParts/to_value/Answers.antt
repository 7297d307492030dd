use Rattle.std.proofs.Common.{subst, sym, ◌∙◌}
use Rattle.std.proofs.lemmas.Str.{IsUtf8-string_bytes, scalars-chars}
use Rattle.ndef_format.specs.Texts.{IsTextIn}
use Rattle.ndef_types.proofs.TextLemmas.{is_text_value}
use Rattle.ndef_types.proofs.text.TextParts.to_value.Goals as goal

pub read_octets-requires : goal.read_octets-requires
read_octets-requires c = subst (λ w. IsTextIn w c.octets.result.now) c.encoding-encoding.ensures c.octets.ensures.text

pub invariant_of-result : goal.invariant_of-result
invariant_of-result c =
    let e = c.in_ok-language.ensures.ok in
    is_text_value _ _ _ (rw e c.language.ensures.short) (rw e c.language.ensures.ascii) (IsUtf8-string_bytes c.in_ok-text.text)

pub returns : goal.returns
returns c = record {
  encoding = c.encoding-encoding.ensures;
  language = sym (c.in_ok-language.ensures.ok ∙ c.language.ensures.value);
  text = rw (← c.octets.ensures.value) c.in_ok-text.ensures;
  scalars = scalars-chars _ (IsUtf8-string_bytes c.in_ok-text.text);
}
