-- The places of the parts of a text, and its payload.
use Rattle.std.proofs.Common.{◌≡◌, ℕ, ◌+◌, ◌-◌, ◌≤◌, Bool, true, true≢false, encode_utf8_all, ◌∷◌, [], false, take, drop, sym, ◌∙◌, ap, arith, List, ◌++◌, length, get_or, length-drop}
use Rattle.std.proofs.lemmas.List.{drop-drop, take_all, length-take-le}
use Rattle.std.proofs.lemmas.Str.{encodes-chars}
use Rattle.std.specs.Prelude.{IsUtf8}
use Rattle.ndef_lang.specs.OctetLaws.{field_parts}
use Rattle.ndef_format.specs.Texts.{IsCodeOctet, IsText, IsTextIn, is_wide, code_length, spelled, units_of, unmarked}
use Rattle.ndef_types.specs.declared.encoding.Encoding.{Encoding}
use Rattle.ndef_types.specs.declared.encoding.Encoding.TheVariants.{Utf8, Utf16}
use Rattle.ndef_types.specs.Values.{TextValue, StandsForText, SpellsText, is_utf16, language_octets, encoded_octets, text_payload}
use Rattle.ndef_c.specs.Texts.{AreSpelled, asked_text}
use Rattle.ndef_c.specs.Walks.{Lies}

code_within : (payload : List ℕ) → IsText payload → 1 + code_length (get_or payload 0 0) ≤ length payload
code_within [] h = absurd h
code_within (status ∷ s) h = let p = field_parts IsCodeOctet (code_length status) (IsTextIn (is_wide status)) s h.2 in let n = p.within in omega (arith, n)

-- the language code and the text, of these lengths
pub record Parts (payload : List ℕ) (n m : ℕ) : Type 0 where
  pub language : Lies payload 1 n (language_octets payload)
  pub text : Lies payload (1 + n) m (encoded_octets payload)

pub parts_lie : (payload : List ℕ) (n m : ℕ) → IsText payload → n ≡ length (language_octets payload) → m ≡ length (encoded_octets payload) → Parts payload n m
parts_lie payload n m h e f =
    let k = code_length (get_or payload 0 0) in
    let w = code_within payload h in
    let size = length-take-le k (drop 1 payload) (omega (arith, length-drop 1 payload, w)) in
    let same : k ≡ n = sym (e ∙ size) in
    let t : drop k (drop 1 payload) ≡ drop (1 + n) payload = drop-drop k 1 payload ∙ ap (λ j. drop (1 + j) payload) same in
    let l : m ≡ length payload - (1 + n) = f ∙ ap length t ∙ length-drop (1 + n) payload in
    record {
      language = record { within = omega (arith, w, same); are = ap (λ j. take j (drop 1 payload)) (sym same); count_is = e };
      text = record { within = omega (arith, w, same, l); are = take_all m (drop (1 + n) payload) (omega (arith, l, length-drop (1 + n) payload)) ∙ sym t; count_is = f };
    }

-- the payload of a text in UTF-8
pub utf8_payload : (language text : List ℕ) (n : ℕ) → IsUtf8 text → n ≡ length language → (n ∷ []) ++ (language ++ text) ≡ text_payload (asked_text 0 language text)
utf8_payload language text n u e = ap (λ m. m ∷ (language ++ text)) e ∙ ap (λ t. length language ∷ (language ++ t)) (sym (encodes-chars text u))

-- ---- texts that are read

-- a text in UTF-8 is its octets
pub given_utf8 : (payload octets : List ℕ) (v : TextValue) → StandsForText payload v → octets ≡ encoded_octets payload → is_wide (get_or payload 0 0) ≡ false → octets ≡ encode_utf8_all v.text
given_utf8 payload octets v h e l = e ∙ sym (by v.encoding h.encoding h.text)
  where
    by : (encoding : Encoding) → is_wide (get_or payload 0 0) ≡ is_utf16 encoding → SpellsText encoding (encoded_octets payload) v.text → encode_utf8_all v.text ≡ encoded_octets payload
    by Utf8 w s = s
    by Utf16 w s = absurd (true≢false (sym w ∙ l))

-- a text in UTF-16 is spelled after its mark
pub given_utf16 : (payload octets : List ℕ) (v : TextValue) → StandsForText payload v → octets ≡ encoded_octets payload → is_wide (get_or payload 0 0) ≡ true
    → (little : Bool) (rest : List ℕ) → little ≡ (unmarked octets).0 → rest ≡ (unmarked octets).1 → AreSpelled little v.text rest
given_utf16 payload octets v h e l little rest a b = record {
  scalars = h.scalars;
  are = ap (λ x. spelled x (units_of v.text)) (a ∙ ap (λ s. (unmarked s).0) e) ∙ by v.encoding h.encoding h.text ∙ sym (b ∙ ap (λ s. (unmarked s).1) e);
}
  where
    by : (encoding : Encoding) → is_wide (get_or payload 0 0) ≡ is_utf16 encoding → SpellsText encoding (encoded_octets payload) v.text
        → spelled (unmarked (encoded_octets payload)).0 (units_of v.text) ≡ (unmarked (encoded_octets payload)).1
    by Utf16 w s = s
    by Utf8 w s = absurd (true≢false (sym l ∙ w))
