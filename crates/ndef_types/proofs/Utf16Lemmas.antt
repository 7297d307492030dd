-- The units of characters, and their octets.
use Rattle.std.proofs.Common.{◌≡◌, ℕ, ◌+◌, ◌-◌, ◌*◌, ◌/◌, ◌%◌, ◌<◌, ◌≤◌, ◌⊎◌, Bool, true, false, List, [], ◌∷◌, ◌++◌, length, map, get_or, take, refl, sym, ◌∙◌, ap, inl, inr, arith, lt-ltb, le-ltb, append_assoc, length-append, unwrap_or, Some}
use Rattle.std.proofs.lemmas.Bool.{cases_lt, and_parts, lt-leb, le-leb}
use Rattle.std.proofs.lemmas.List.{take_more, flat_map_more}
use Rattle.std.proofs.lemmas.Grind.{flat_map-append}
use Rattle.std.proofs.lemmas.Str.{utf16_chars-nil, utf16_chars_lone, utf16_chars_pair, chars-encodes, length-encode}
use Rattle.std.specs.Prelude.{if◌then◌else◌, not, is_some, encode_utf8_all, chars}
use Rattle.std.specs.List.{list_any}
use Rattle.std.specs.Int.{w16, from_le_bytes, from_be_bytes}
use Rattle.std.specs.Str.{all_scalars}
use Rattle.std.specs.Char.{len_utf8}
use Rattle.std.specs.Char.Escape.{encode_utf16}
use Rattle.std.specs.Char.Utf16.{utf16_chars, utf16_lossy_chars, has_unpaired_surrogate, lone_unit_char, surrogate_pair_char}
use lib.Utf8.{scalar, scalars, scalar_cases, encode, encodes}
use Rattle.ndef_format.specs.Texts.{units_of, spelled, unit_octets, unmarked, IsUtf16}
use Rattle.ndef_lang.specs.Machine.Utf16Laws.{spelled_length}
use Rattle.ndef_types.specs.UnitLaws.{same_unit}

-- ---- the characters of units

lone_scalar : (c : ℕ) → (c < 55296) ⊎ ((57344 ≤ c) × (c < 1114112)) → lone_unit_char c ≡ Some c
lone_scalar c (inl a) = rw (lt-leb 0xD800 c a) refl
lone_scalar c (inr a) = rw (le-leb 0xD800 c (omega arith), le-ltb c 0xE000 a.0) refl

pair_scalar : (c : ℕ) → 0x10000 ≤ c → surrogate_pair_char (0xD800 + (c - 0x10000) / 0x400) (0xDC00 + (c - 0x10000) % 0x400) ≡ c
pair_scalar c a = omega arith

chars_of_units : (cs : List ℕ) → all_scalars cs ≡ true → utf16_chars (units_of cs) ≡ map Some cs
chars_of_units [] ok = utf16_chars-nil
chars_of_units (c ∷ cs) ok =
    let p = and_parts (scalar c) (scalars cs) ok in
    let range = scalar_cases c p.0 in
    let later = chars_of_units cs p.1 in
    elim (cases_lt c 0x10000) [
      | inl a ↦
          rw (lt-ltb c 0x10000 a)
          (utf16_chars_lone c (units_of cs) (λ k. elim range [ inl x ↦ omega arith | inr x ↦ omega arith ]) ∙ (λ i. lone_scalar c range i ∷ later i))
      | inr a ↦
          rw (le-ltb c 0x10000 a)
          (utf16_chars_pair (0xD800 + (c - 0x10000) / 0x400) (0xDC00 + (c - 0x10000) % 0x400) (units_of cs) (omega arith, omega arith, omega arith, omega arith)
          ∙ (λ i. Some (pair_scalar c a i) ∷ later i))
    ]

none_is_none : (cs : List ℕ) → list_any (λ o. not (is_some o)) (map Some cs) ≡ false
none_is_none [] = refl
none_is_none (c ∷ cs) = none_is_none cs

all_are_some : (cs : List ℕ) → map (λ o. unwrap_or o 0xFFFD) (map Some cs) ≡ cs
all_are_some [] = refl
all_are_some (c ∷ cs) = ap (λ t. c ∷ t) (all_are_some cs)

are_paired : (cs : List ℕ) → all_scalars cs ≡ true → has_unpaired_surrogate (units_of cs) ≡ false
are_paired cs ok = rw (chars_of_units cs ok) (none_is_none cs)

lossless : (cs : List ℕ) → all_scalars cs ≡ true → utf16_lossy_chars (units_of cs) ≡ cs
lossless cs ok = rw (chars_of_units cs ok) (all_are_some cs)

-- units are those of one list of characters
pub units_same : (cs ds : List ℕ) → all_scalars cs ≡ true → all_scalars ds ≡ true → units_of cs ≡ units_of ds → cs ≡ ds
units_same cs ds p q e = sym (lossless cs p) ∙ ap utf16_lossy_chars e ∙ lossless ds q

-- ---- the octets of units

-- octets are those of one list of units
pub spelled_same : (little : Bool) (us vs : List ℕ) → spelled little us ≡ spelled little vs → us ≡ vs
spelled_same little [] [] e = refl
spelled_same true [] (v ∷ vs) e = absurd (cc)
spelled_same false [] (v ∷ vs) e = absurd (cc)
spelled_same true (u ∷ us) [] e = absurd (cc)
spelled_same false (u ∷ us) [] e = absurd (cc)
spelled_same true (u ∷ us) (v ∷ vs) e =
    let x : u % 256 ≡ v % 256 = cc in
    let y : u / 256 ≡ v / 256 = cc in
    let z : spelled true us ≡ spelled true vs = cc in
    λ i. same_unit u v y x i ∷ spelled_same true us vs z i
spelled_same false (u ∷ us) (v ∷ vs) e =
    let x : u % 256 ≡ v % 256 = cc in
    let y : u / 256 ≡ v / 256 = cc in
    let z : spelled false us ≡ spelled false vs = cc in
    λ i. same_unit u v y x i ∷ spelled_same false us vs z i

-- ---- reading

little_pair : (a b : ℕ) → a < 256 → b < 256 → spelled true (from_le_bytes w16 (a ∷ b ∷ []) ∷ []) ≡ a ∷ b ∷ []
little_pair a b p q =
    let x : from_le_bytes w16 (a ∷ b ∷ []) % 256 ≡ a = omega arith in
    let y : from_le_bytes w16 (a ∷ b ∷ []) / 256 ≡ b = omega arith in
    λ i. x i ∷ y i ∷ []

big_pair : (a b : ℕ) → a < 256 → b < 256 → spelled false (from_be_bytes w16 (a ∷ b ∷ []) ∷ []) ≡ a ∷ b ∷ []
big_pair a b p q =
    let x : from_be_bytes w16 (a ∷ b ∷ []) / 256 ≡ a = omega arith in
    let y : from_be_bytes w16 (a ∷ b ∷ []) % 256 ≡ b = omega arith in
    λ i. x i ∷ y i ∷ []

take_two : (s : List ℕ) (i : ℕ) → 2 * i + 1 < length s → take (2 * (i + 1)) s ≡ take (2 * i) s ++ get_or s (2 * i) 0 ∷ get_or s (2 * i + 1) 0 ∷ []
take_two s i l =
    let e : 2 * (i + 1) ≡ 2 * i + 1 + 1 = omega arith in
    let k : 2 * i < length s = omega arith in
    rw (e, take_more s (2 * i + 1) 0 l, take_more s (2 * i) 0 k) (append_assoc (take (2 * i) s) (get_or s (2 * i) 0 ∷ []) (get_or s (2 * i + 1) 0 ∷ []))

-- one more pair, read as a unit
pub more_units : (little : Bool) (us s : List ℕ) (u i : ℕ) → 2 * i + 1 < length s → ((k : ℕ) → get_or s k 0 < 256)
    → u ≡ (if little then from_le_bytes w16 (get_or s (2 * i) 0 ∷ get_or s (2 * i + 1) 0 ∷ []) else from_be_bytes w16 (get_or s (2 * i) 0 ∷ get_or s (2 * i + 1) 0 ∷ []))
    → spelled little us ≡ take (2 * i) s → spelled little (us ++ u ∷ []) ≡ take (2 * (i + 1)) s
more_units little us s u i l small e h = flat_map-append (unit_octets little) us (u ∷ []) ∙ (λ k. h k ++ pair little u e k) ∙ sym (take_two s i l)
  where
    a : ℕ
    a = get_or s (2 * i) 0

    b : ℕ
    b = get_or s (2 * i + 1) 0

    pair : (little : Bool) (u : ℕ) → u ≡ (if little then from_le_bytes w16 (get_or s (2 * i) 0 ∷ get_or s (2 * i + 1) 0 ∷ []) else from_be_bytes w16 (get_or s (2 * i) 0 ∷ get_or s (2 * i + 1) 0 ∷ []))
        → spelled little (u ∷ []) ≡ get_or s (2 * i) 0 ∷ get_or s (2 * i + 1) 0 ∷ []
    pair true u e = ap (λ v. spelled true (v ∷ [])) e ∙ little_pair _ _ (small (2 * i)) (small (2 * i + 1))
    pair false u e = ap (λ v. spelled false (v ∷ [])) e ∙ big_pair _ _ (small (2 * i)) (small (2 * i + 1))

pub even_octets : (s : List ℕ) → IsUtf16 s → length (unmarked s).1 % 2 ≡ 0
even_octets s h = omega (arith, spelled_length (unmarked s).0 h.0, ap length h.1.1)

-- the units that the octets of a text spell
units_are : (s vs : List ℕ) (h : IsUtf16 s) → spelled (unmarked s).0 vs ≡ (unmarked s).1 → vs ≡ units_of h.1.0.0
units_are s vs h e = spelled_same (unmarked s).0 vs h.0 (e ∙ sym h.1.1) ∙ sym h.1.0.1.1

pub text_is_paired : (s vs : List ℕ) → IsUtf16 s → spelled (unmarked s).0 vs ≡ (unmarked s).1 → has_unpaired_surrogate vs ≡ false
text_is_paired s vs h e = ap has_unpaired_surrogate (units_are s vs h e) ∙ are_paired h.1.0.0 h.1.0.1.0

pub text_is_read : (s vs bytes : List ℕ) → IsUtf16 s → spelled (unmarked s).0 vs ≡ (unmarked s).1 → bytes ≡ encode_utf8_all (utf16_lossy_chars vs)
    → spelled (unmarked s).0 (units_of (chars bytes)) ≡ (unmarked s).1
text_is_read s vs bytes h e b =
    let cs = h.1.0.0 in
    let ok = h.1.0.1.0 in
    let same : chars bytes ≡ cs = ap chars (b ∙ ap (λ us. encode_utf8_all (utf16_lossy_chars us)) (units_are s vs h e) ∙ ap encode_utf8_all (lossless cs ok)) ∙ chars-encodes cs ok in
    ap (λ ds. spelled (unmarked s).0 (units_of ds)) same ∙ ap (spelled (unmarked s).0) (sym (units_are s vs h e)) ∙ e

-- ---- writing

-- a character has at most as many units as octets of UTF-8
few_units : (c : ℕ) → length (encode_utf16 c) ≤ length (encode c)
few_units c = rw (length-encode c) (few (cases_lt c 0x80) (cases_lt c 0x800) (cases_lt c 0x10000))
  where
    few : (c < 0x80) ⊎ (0x80 ≤ c) → (c < 0x800) ⊎ (0x800 ≤ c) → (c < 0x10000) ⊎ (0x10000 ≤ c) → length (encode_utf16 c) ≤ len_utf8 c
    few (inl x) b (inl z) = rw (lt-ltb c 0x80 x, lt-ltb c 0x10000 z) (omega arith)
    few (inl x) b (inr z) = absurd (omega arith)
    few (inr x) (inl y) (inl z) = rw (le-ltb c 0x80 x, lt-ltb c 0x800 y, lt-ltb c 0x10000 z) (omega arith)
    few (inr x) (inl y) (inr z) = absurd (omega arith)
    few (inr x) (inr y) (inl z) = rw (le-ltb c 0x80 x, le-ltb c 0x800 y, lt-ltb c 0x10000 z) (omega arith)
    few (inr x) (inr y) (inr z) = rw (le-ltb c 0x80 x, le-ltb c 0x800 y, le-ltb c 0x10000 z) (omega arith)

-- as many units as a character has
pub unit_count : (c n : ℕ) → (c < 0x10000 → n ≡ 1) → (0x10000 ≤ c → n ≡ 2) → n ≡ length (encode_utf16 c)
unit_count c n f g = elim (cases_lt c 0x10000) [ inl a ↦ rw (lt-ltb c 0x10000 a) (f a) | inr a ↦ rw (le-ltb c 0x10000 a) (g a) ]

-- one character more, counted, where its octets come off a rest
pub count_more : (cs rest more : List ℕ) (c n count most : ℕ) → n ≡ length (encode_utf16 c) → rest ≡ encode c ++ more
    → count ≡ length (units_of cs) → count + length rest ≤ most
    → (count + n ≡ length (units_of (cs ++ c ∷ []))) × (count + n + length more ≤ most)
count_more cs rest more c n count most e r h l =
    let x : length rest ≡ length (encode c) + length more = ap length r ∙ length-append (encode c) more in
    let y : length (units_of (cs ++ c ∷ [])) ≡ length (units_of cs) + length (encode_utf16 c) = ap length (sym (flat_map_more encode_utf16 [] cs c)) ∙ length-append (units_of cs) (encode_utf16 c) in
    (omega arith, omega (arith, few_units c))
