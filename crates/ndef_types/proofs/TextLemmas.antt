-- The parts of a text payload.
use Rattle.std.proofs.Common.{◌≡◌, ℕ, zero, suc, ◌+◌, ◌-◌, ◌*◌, ◌<◌, ◌≤◌, false, List, [], ◌∷◌, length, take, drop, get_or, sym, ◌∙◌, ap, arith, ◌↔◌, ◌/◌, Result, Ok, Err, IfOk}
use Rattle.std.proofs.lemmas.Str.{scalars-chars, encodes-chars}
use Rattle.std.proofs.lemmas.Bool.{leb-true, le-leb}
use Rattle.std.proofs.lemmas.List.{length-take-le}
use Rattle.std.specs.Prelude.{IsAscii, IsUtf8, IsTrue, OnErr, nat_le, chars}
use Rattle.std.specs.List.{AllByRecursion}
use Rattle.ndef_lang.specs.OctetLaws.{field_parts}
use Rattle.ndef_format.specs.Texts.{IsCodeOctet, IsText, IsTextIn, is_wide, code_length, spelled, units_of}
use Rattle.ndef_lang.specs.Machine.Utf16Laws.{spelled_length}
use Rattle.ndef_types.specs.declared.encoding.Encoding.{Encoding}
use Rattle.ndef_types.specs.declared.encoding.Encoding.TheVariants.{Utf8, Utf16}
use Rattle.ndef_types.specs.Values.{IsTextValue, text_octets, language_octets, encoded_octets}

-- ---- language codes

ascii_of : (code : List ℕ) → AllByRecursion IsCodeOctet code → IsAscii code
ascii_of [] h i = omega arith
ascii_of (b ∷ code) h zero = omega (arith, h.0)
ascii_of (b ∷ code) h (suc i) = ascii_of code h.1 i

pub of_ascii : (code : List ℕ) → IsAscii code → AllByRecursion IsCodeOctet code
of_ascii [] h = tt
of_ascii (b ∷ code) h = let x = h 0 in (omega arith, of_ascii code (λ i. h (suc i)))

pub is_text_value : (encoding : Encoding) (language text : List ℕ) → length language ≤ 63 → IsAscii language → IsUtf8 text
    → IsTextValue (record { encoding = encoding; language = language; text = chars text })
is_text_value encoding language text short ascii utf8 = record { short = short; language = ascii; text = scalars-chars text utf8 }

-- ---- the parts of a payload

pub record TextParts (payload : List ℕ) : Type 0 where
  pub some : 0 < length payload
  pub room : code_length (get_or payload 0 0) ≤ length (drop 1 payload)
  pub short : length (language_octets payload) ≤ 63
  pub ascii : IsAscii (language_octets payload)
  pub text : IsTextIn (is_wide (get_or payload 0 0)) (encoded_octets payload)

pub text_parts : (payload : List ℕ) → IsText payload → TextParts payload
text_parts [] h = absurd h
text_parts (status ∷ s) h =
    let p = field_parts IsCodeOctet (code_length status) (IsTextIn (is_wide status)) s h.2 in
    record {
      some = omega arith;
      room = p.within;
      short = omega (arith, length-take-le (code_length status) s);
      ascii = ascii_of (take (code_length status) s) p.front;
      text = p.rest;
    }

-- ---- lengths

pub fits_utf8 : (bytes : List ℕ) (n most : ℕ) → IsUtf8 bytes → n ≡ length bytes → IsTrue (nat_le n most) ↔ (length (text_octets Utf8 (chars bytes)) ≤ most)
fits_utf8 bytes n most utf8 e =
    let x : length (text_octets Utf8 (chars bytes)) ≡ n = ap length (encodes-chars bytes utf8) ∙ sym e in
    (λ h. omega (arith, leb-true n most h), λ h. le-leb n most (omega arith))

pub utf16_length : (us : List ℕ) → length (0xfe ∷ 0xff ∷ spelled false us) ≡ 2 + 2 * length us
utf16_length us = omega (arith, spelled_length false us)

pub fits_utf16 : (text : List ℕ) (n most : ℕ) → n ≡ length (units_of text) → 2 ≤ most → IsTrue (nat_le n ((most - 2) / 2)) ↔ (length (text_octets Utf16 text) ≤ most)
fits_utf16 text n most e l =
    let x : length (text_octets Utf16 text) ≡ 2 + 2 * n = omega (arith, utf16_length (units_of text)) in
    (λ h. omega (arith, leb-true n ((most - 2) / 2) h), λ h. le-leb n ((most - 2) / 2) (omega arith))

-- ---- results

pub if_ok : {T E : Type 0} (P Q : T → Type 0) → ((x : T) → P x → Q x) → (r : Result T E) → IfOk r P → IfOk r Q
if_ok P Q f (Ok x) h = f x h
if_ok P Q f (Err e) h = tt

-- what holds anyway
pub on_err : {T E P : Type 0} (r : Result T E) → P → OnErr r P
on_err (Ok x) p = tt
on_err (Err e) p = p
