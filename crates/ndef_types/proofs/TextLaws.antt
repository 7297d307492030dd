-- A text payload has one text as its value, and the payload that is written for a text has that value.
use Rattle.std.proofs.Common.{◌≡◌, ℕ, ◌+◌, ◌%◌, ◌<◌, ◌≤◌, Bool, true, false, List, ◌∷◌, ◌++◌, length, get_or, refl, sym, ◌∙◌, ap, subst, arith}
use Rattle.std.proofs.lemmas.Bool.{le-leb, lt-leb}
use Rattle.std.proofs.Math.Seq.{take-append_seam, drop-append_seam}
use Rattle.std.proofs.lemmas.Str.{encodes_same}
use Rattle.std.specs.Str.{all_scalars}
use Rattle.ndef_format.specs.Octets.{Octets}
use Rattle.ndef_lang.specs.OctetLaws.{octets_field}
use Rattle.ndef_format.specs.Texts.{IsCodeOctet, IsText, IsTextIn, is_wide, units_of, spelled, unmarked}
use Rattle.ndef_format.specs.PayloadReasons.{TextReason}
use Rattle.ndef_types.specs.declared.encoding.Encoding.{Encoding}
use Rattle.ndef_types.specs.declared.encoding.Encoding.TheVariants.{Utf8, Utf16}
use Rattle.ndef_types.specs.Decoding.{OneValue, EachHasValue, ValuesRoundTrip, WritesPayloads}
use Rattle.ndef_types.specs.Values.{TextValue, IsTextValue, StandsForText, SpellsText, WritesText, is_utf16, status_octet, text_octets, language_octets, encoded_octets}
use Rattle.ndef_types.proofs.RoundTripLemmas.{round_trip}
use Rattle.ndef_types.proofs.TextLemmas.{TextParts, text_parts, of_ascii}
use Rattle.ndef_types.proofs.Utf16Lemmas.{units_same, spelled_same}

same_encoding : (a b : Encoding) → is_utf16 a ≡ is_utf16 b → a ≡ b
same_encoding Utf8 Utf8 e = refl
same_encoding Utf8 Utf16 e = absurd (cc)
same_encoding Utf16 Utf8 e = absurd (cc)
same_encoding Utf16 Utf16 e = refl

same_text : (encoding : Encoding) (octets a b : List ℕ) → all_scalars a ≡ true → all_scalars b ≡ true → SpellsText encoding octets a → SpellsText encoding octets b → a ≡ b
same_text Utf8 octets a b p q x y = encodes_same a b (x ∙ sym y)
same_text Utf16 octets a b p q x y = units_same a b p q (spelled_same (unmarked octets).0 (units_of a) (units_of b) (x ∙ sym y))

pub one_text : OneValue IsText StandsForText
one_text payload v w h x y =
    let e : v.encoding ≡ w.encoding = same_encoding v.encoding w.encoding (sym x.encoding ∙ y.encoding) in
    let l : v.language ≡ w.language = sym x.language ∙ y.language in
    let spelled_v : SpellsText w.encoding (encoded_octets payload) v.text = subst (λ k. SpellsText k (encoded_octets payload) v.text) e x.text in
    let t : v.text ≡ w.text = same_text w.encoding _ v.text w.text x.scalars y.scalars spelled_v y.text in
    λ i. record { encoding = e i; language = l i; text = t i }

-- ---- what is written

record IsStatus (encoding : Encoding) (n status : ℕ) : Type 0 where
  octet : status < 256
  free : 64 ≤ status % 128 → ⊥
  wide : is_wide status ≡ is_utf16 encoding
  count : status % 64 ≡ n

is_status : (encoding : Encoding) (n : ℕ) → n ≤ 63 → IsStatus encoding n (status_octet encoding n)
is_status Utf8 n l = record { octet = omega arith; free = λ h. omega arith; wide = lt-leb 128 n (omega arith); count = omega arith }
is_status Utf16 n l = record { octet = omega arith; free = λ h. omega arith; wide = le-leb 128 (128 + n) (omega arith); count = omega arith }

text_is_in : (encoding : Encoding) (text : List ℕ) → all_scalars text ≡ true → IsTextIn (is_utf16 encoding) (text_octets encoding text)
text_is_in Utf8 text ok = (text, (ok, refl))
text_is_in Utf16 text ok = (units_of text, ((text, (ok, refl)), refl))

text_is_spelled : (encoding : Encoding) (text : List ℕ) → SpellsText encoding (text_octets encoding text) text
text_is_spelled Utf8 text = refl
text_is_spelled Utf16 text = refl

written_at : (v : TextValue) (status : ℕ) → IsTextValue v → IsStatus v.encoding (length v.language) status
    → IsText (status ∷ (v.language ++ text_octets v.encoding v.text)) × StandsForText (status ∷ (v.language ++ text_octets v.encoding v.text)) v
written_at v status h s =
    let octets = text_octets v.encoding v.text in
    let front : Octets IsCodeOctet (length v.language) (IsTextIn (is_utf16 v.encoding)) (v.language ++ octets) =
    octets_field IsCodeOctet v.language octets (IsTextIn (is_utf16 v.encoding)) (of_ascii v.language h.language) (text_is_in v.encoding v.text h.text) in (
      (s.octet, s.free, rw (s.count, s.wide) front),
      record {
        encoding = s.wide;
        language = rw s.count (take-append_seam v.language octets);
        text = rw (s.count, drop-append_seam v.language octets) (text_is_spelled v.encoding v.text);
        scalars = h.text;
      },
    )

written : (v : TextValue) (payload : List ℕ) → IsTextValue v → WritesText v payload → IsText payload × StandsForText payload v
written v payload h e = rw e (written_at v _ h (is_status v.encoding (length v.language) h.short))

pub text_written : WritesPayloads IsText IsTextValue WritesText
text_written v payload h e = (written v payload h e).0

pub texts_round_trip : ValuesRoundTrip IsText TextReason StandsForText IsTextValue WritesText
texts_round_trip = round_trip IsText TextReason StandsForText IsTextValue WritesText written one_text

-- ---- each payload has a value

pub each_text : EachHasValue IsText StandsForText IsTextValue
each_text payload h = by_wide (is_wide (get_or payload 0 0)) refl p.text
  where
    p : TextParts payload
    p = text_parts payload h

    by_wide : (wide : Bool) → is_wide (get_or payload 0 0) ≡ wide → IsTextIn wide (encoded_octets payload) → (v : TextValue) × (IsTextValue v × StandsForText payload v)
    by_wide true e t = (
      record { encoding = Utf16; language = language_octets payload; text = t.1.0.0 },
      (
        record { short = p.short; language = p.ascii; text = t.1.0.1.0 },
        record { encoding = e; language = refl; text = ap (spelled (unmarked (encoded_octets payload)).0) t.1.0.1.1 ∙ t.1.1; scalars = t.1.0.1.0 },
      ),
    )
    by_wide false e t = (
      record { encoding = Utf8; language = language_octets payload; text = t.0 },
      (record { short = p.short; language = p.ascii; text = t.1.0 }, record { encoding = e; language = refl; text = t.1.1; scalars = t.1.0 }),
    )
