-- The completions of a UTF-16 text: their octets and their lengths.
use Rattle.std.proofs.Common.{◌≡◌, ℕ, zero, suc, ◌+◌, ◌-◌, ◌*◌, ◌/◌, ◌%◌, ◌<◌, ◌≤◌, ◌⊎◌, ◌↔◌, Bool, true, false, List, [], ◌∷◌, ◌++◌, length, length-append, refl, ap, subst, inl, inr, arith, lt-ltb, le-ltb, le-leb, leb-true, ltb-true, ne_eqb}
use Rattle.std.proofs.lemmas.Bool.{cases_lt, cases_eq, and_parts, lt-leb}
use Rattle.std.proofs.lemmas.Bool.Decides.{nat_tests}
use lib.Utf8.{scalar, scalars, low_scalar, scalar_cases}
use Rattle.std.specs.Prelude.{nat_lt, nat_le, if◌then◌else◌, not, ◌||◌}
use Rattle.std.specs.List.{AllByRecursion}
use Rattle.ndef_format.specs.Records.{AreOctets}
use Rattle.ndef_lang.specs.declared.lengths.Lengths.TheVariants.{Never, PairsFrom}
use Rattle.ndef_lang.specs.declared.utf16.Utf16State.{Utf16State}
use Rattle.ndef_lang.specs.declared.utf16.Utf16State.TheVariants.{Start, First, Whole, Half, Refused}
use Rattle.ndef_lang.specs.Lengths.{AreLengths, HasLength}
use Rattle.ndef_lang.specs.Machine.Utf16.{CompletesUtf16, is_low_octet, is_high_octet, begins_none, utf16_refused, utf16_missing, utf16_lengths, UnitsRest, SpelledRest, UnitThen}
use Rattle.ndef_format.specs.Texts.{unmarked, units_of, spelled, IsUnits, IsSpelled, IsUtf16}

high_scalar : (c : ℕ) → 57344 ≤ c → c < 1114112 → scalar c ≡ true
high_scalar c l h = rw (le-ltb c 55296 (omega arith), le-leb 57344 c l, lt-ltb c 1114112 h)

pub no_units : IsUnits []
no_units = ([], (refl, refl))

-- what comes after the first unit u
pub data AfterUnit (u : ℕ) (us : List ℕ) : Type 0 where
  alone : u < 0x10000 → (u < 0xd800) ⊎ (0xe000 ≤ u) → IsUnits us → AfterUnit u us
  in_pair : 0xd800 ≤ u → u < 0xdc00 → UnitsRest true us → AfterUnit u us

after_unit_at : (u v : ℕ) (us vs : List ℕ) → v ∷ vs ≡ u ∷ us → AfterUnit v vs → AfterUnit u us
after_unit_at u v us vs e h = let p : v ≡ u = cc in let q : vs ≡ us = cc
    in subst (λ y. AfterUnit y us) p (subst (AfterUnit v) q h)

pub after_first : (u : ℕ) (us cs : List ℕ) → scalars cs ≡ true → units_of cs ≡ u ∷ us → AfterUnit u us
after_first u us [] ok e = absurd (cc)
after_first u us (c ∷ cs) ok e =
    let p = and_parts (scalar c) (scalars cs) ok in
    let range = scalar_cases c p.0 in
    elim (cases_lt c 0x10000) [
      | inl a ↦ after_unit_at u c us (units_of cs) (rw (lt-ltb c 0x10000 a) at e)
          (alone a (elim range [ inl x ↦ inl x | inr y ↦ inr y.0 ]) (cs, (p.1, refl)))
      | inr a ↦ after_unit_at u _ us _ (rw (le-ltb c 0x10000 a) at e)
          (in_pair (omega arith) (omega arith) (omega arith, omega arith, (cs, (p.1, refl))))
    ]

pub units_alone : (u : ℕ) (us : List ℕ) → u < 0x10000 → (u < 0xd800) ⊎ (0xe000 ≤ u) → IsUnits us → IsUnits (u ∷ us)
units_alone u us l h k =
    let ok : scalar u ≡ true = elim h [ inl a ↦ low_scalar u a | inr a ↦ high_scalar u a (omega arith) ] in
    (u ∷ k.0, (rw ok k.1.0, rw (lt-ltb u 0x10000 l) (ap (λ t. u ∷ t) k.1.1)))

pub units_paired : (u : ℕ) (us : List ℕ) → 0xd800 ≤ u → u < 0xdc00 → UnitsRest true us → IsUnits (u ∷ us)
units_paired u [] l h k = absurd k
units_paired u (v ∷ us) l h k =
    let c = 0x10000 + (u - 0xd800) * 0x400 + (v - 0xdc00) in
    let ok : scalar c ≡ true = high_scalar c (omega arith) (omega arith) in
    let p : 0xd800 + (c - 0x10000) / 0x400 ≡ u = omega arith in
    let q : 0xdc00 + (c - 0x10000) % 0x400 ≡ v = omega arith in
    (c ∷ k.2.0, (rw ok k.2.1.0, rw (le-ltb c 0x10000 (omega arith)) (λ i. p i ∷ q i ∷ k.2.1.1 i)))

abbrev pub IsSurrogateLow : ℕ → Type 0
IsSurrogateLow u = (0xdc00 ≤ u) × (u < 0xe000)

pub unit_lone_low : (little : Bool) (u : ℕ) (r : List ℕ) → IsSurrogateLow u → UnitThen little false u r → ⊥
unit_lone_low little u r l h =
    elim (after_first u h.0 h.1.0.0 h.1.0.1.0 h.1.0.1.1) [
      | alone a b k ↦ elim b [ inl x ↦ omega arith | inr x ↦ omega arith ]
      | in_pair a b k ↦ omega arith
    ]

unit_is_small : (u : ℕ) (us : List ℕ) → IsUnits (u ∷ us) → u < 65536
unit_is_small u us k = elim (after_first u us k.0 k.1.0 k.1.1) [ alone a b j ↦ a | in_pair a b j ↦ omega arith ]

-- ---- marks

pub no_mark : (a b : ℕ) (s : List ℕ) → (a ≡ 0xfe → b ≡ 0xff → ⊥) → (a ≡ 0xff → b ≡ 0xfe → ⊥)
    → unmarked (a ∷ b ∷ s) ≡ (false, a ∷ b ∷ s)
no_mark a b s f g =
    elim (cases_eq a 0xfe) [
      | inl p ↦ rw (p, ne_eqb b 0xff (λ q. f p q)) refl
      | inr p ↦ elim (cases_eq a 0xff) [
        | inl q ↦ rw (q, ne_eqb b 0xfe (λ x. g q x)) refl
        | inr q ↦ rw (ne_eqb a 0xfe p, ne_eqb a 0xff q) refl
      ]
    ]

pub text_of_no_mark : (a b : ℕ) (s : List ℕ) → (a ≡ 0xfe → b ≡ 0xff → ⊥) → (a ≡ 0xff → b ≡ 0xfe → ⊥)
    → SpelledRest false false (a ∷ b ∷ s) ↔ IsUtf16 (a ∷ b ∷ s)
text_of_no_mark a b s f g = let e = no_mark a b s f g in rw e (λ h. h, λ h. h)

-- ---- lengths

-- two octets a unit
pub spelled_length : (little : Bool) (us : List ℕ) → length (spelled little us) ≡ 2 * length us
spelled_length little [] = refl
spelled_length true (u ∷ us) = omega (arith, spelled_length true us)
spelled_length false (u ∷ us) = omega (arith, spelled_length false us)

some_units : (m : ℕ) → (us : List ℕ) × (IsUnits us × (length us ≡ m))
some_units zero = ([], (no_units, refl))
some_units (suc m) = let t = some_units m in (
  97 ∷ t.0,
  (units_alone 97 t.0 (omega arith) (inl (omega arith)) t.1.0, omega (arith, t.1.1)),
)

-- after whole units
whole_lengths : (little paired : Bool) → AreLengths (SpelledRest little paired)
    (PairsFrom (utf16_missing (Whole little paired)))
whole_lengths little false = record {
  all = λ r h. (length h.0, omega (arith, spelled_length little h.0, ap length h.1.1));
  each = λ k h. let t = some_units h.0 in (
    spelled little t.0,
    ((t.0, (t.1.0, refl)), omega (arith, spelled_length little t.0, t.1.1, h.1)),
  );
}
whole_lengths little true = record {
  all = λ r h. at_least r h.0 h.1.0 h.1.1;
  each = λ k h. let t = some_units h.0 in let us = 0xdc00 ∷ t.0
      in (
        spelled little us,
        (
          (us, ((omega arith, omega arith, t.1.0), refl)),
          omega (arith, spelled_length little us, t.1.1, h.1),
        ),
      );
}
  where
    at_least : (r us : List ℕ) → UnitsRest true us → spelled little us ≡ r → (m : ℕ) × (length r ≡ 2 + 2 * m)
    at_least r [] k e = absurd k
    at_least r (u ∷ us) k e = (length us, omega (arith, spelled_length little (u ∷ us), ap length e))

-- ---- an octet held

big_octets : (a b : ℕ) (us : List ℕ) → b < 256 → spelled false ((a * 256 + b) ∷ us) ≡ a ∷ b ∷ spelled false us
big_octets a b us h = let x : (a * 256 + b) / 256 ≡ a = omega arith in let y : (a * 256 + b) % 256 ≡ b = omega arith
    in λ i. x i ∷ y i ∷ spelled false us

little_octets : (a b : ℕ) (us : List ℕ) → a < 256 → spelled true ((b * 256 + a) ∷ us) ≡ a ∷ b ∷ spelled true us
little_octets a b us h = let x : (b * 256 + a) / 256 ≡ b = omega arith in let y : (b * 256 + a) % 256 ≡ a = omega arith
    in λ i. y i ∷ x i ∷ spelled true us

-- one octet less than whole units
one_less : (little paired : Bool) (a : ℕ) (r us : List ℕ) → UnitsRest paired us → spelled little us ≡ a ∷ r → (m : ℕ)
    × (length r ≡ 1 + 2 * m)
one_less little paired a r [] k e = absurd (cc)
one_less little paired a r (u ∷ us) k e = (length us, omega (arith, spelled_length little (u ∷ us), ap length e))

-- three less than whole units: the octet a begins the first unit of a pair
three_less : (a : ℕ) (r us : List ℕ) → 0xd8 ≤ a → a < 0xdc → UnitsRest false us → spelled false us ≡ a ∷ r → (m : ℕ)
    × (length r ≡ 3 + 2 * m)
three_less a r [] l h k e = absurd (cc)
three_less a r (u ∷ us) l h k e =
    let x : u / 256 ≡ a = cc in
    elim (after_first u us k.0 k.1.0 k.1.1) [
      | alone p q j ↦ absurd (elim q [ inl y ↦ omega arith | inr y ↦ omega arith ])
      | in_pair p q j ↦ after_pair us j (omega (arith, spelled_length false (u ∷ us), ap length e))
    ]
  where
    after_pair : (us : List ℕ) → UnitsRest true us → length r ≡ 1 + 2 * length us → (m : ℕ) × (length r ≡ 3 + 2 * m)
    after_pair [] j n = absurd j
    after_pair (v ∷ vs) j n = (length vs, omega arith)

-- after the octet a, b completes a unit, and m units follow
some_half : (little paired : Bool) (a b n m : ℕ) (front : List ℕ) → n ≡ length (spelled little front)
    → ((us : List ℕ) → IsUnits us → SpelledRest little paired (a ∷ b ∷ spelled little (front ++ us))) → (k : ℕ)
    → k ≡ 1 + n + 2 * m → (r : List ℕ) × (SpelledRest little paired (a ∷ r) × (length r ≡ k))
some_half little paired a b n m front e h k f =
    let t = some_units m in (
      b ∷ spelled little (front ++ t.0),
      (
        h t.0 t.1.0,
        omega (
          arith,
          spelled_length little (front ++ t.0),
          spelled_length little front,
          length-append front t.0,
          t.1.1,
        ),
      ),
    )

low_octet_test : (a : ℕ) → is_low_octet a ≡ true → (0xdc ≤ a) × (a < 0xe0)
low_octet_test a e = let p = and_parts (nat_le 0xdc a) (nat_lt a 0xe0) e in (leb-true 0xdc a p.0, ltb-true a 0xe0 p.1)

low_from_test : (a : ℕ) → not (is_low_octet a) ≡ false → (0xdc ≤ a) × (a < 0xe0)
low_from_test a d = low_octet_test a (not_false _ d)
  where
    not_false : (b : Bool) → not b ≡ false → b ≡ true
    not_false true e = refl
    not_false false e = absurd (cc)

or_parts : (p q : Bool) → (p || q) ≡ false → (p ≡ false) × (q ≡ false)
or_parts false false e = (refl, refl)
or_parts true q e = absurd (cc)
or_parts false true e = absurd (cc)

high_cases : (a : ℕ) → ((0xd8 ≤ a) × (a < 0xdc) × (is_high_octet a ≡ true))
    ⊎ (((a < 0xd8) ⊎ (0xdc ≤ a)) × (is_high_octet a ≡ false))
high_cases a =
    elim (cases_lt a 0xd8) [
      | inl x ↦ inr (inl x, rw (lt-leb 0xd8 a x) refl)
      | inr x ↦ elim (cases_lt a 0xdc) [
        | inl y ↦ inl (x, y, rw (le-leb 0xd8 a x, lt-ltb a 0xdc y) refl)
        | inr y ↦ inr (inr y, rw (le-leb 0xd8 a x, le-ltb a 0xdc y) refl)
      ]
    ]

not_surrogate : (a : ℕ) → (a < 0xd8) ⊎ (0xdc ≤ a) → is_low_octet a ≡ false → (a * 256 + 0 < 0xd800)
    ⊎ (0xe000 ≤ a * 256 + 0)
not_surrogate a (inl x) d = inl (omega arith)
not_surrogate a (inr x) d =
    elim (cases_lt a 0xe0) [
      | inl y ↦ absurd (let t : is_low_octet a ≡ true = rw (le-leb 0xdc a x, lt-ltb a 0xe0 y) refl in cc)
      | inr y ↦ inr (omega arith)
    ]

big_length : (a : ℕ) (r : List ℕ) → is_low_octet a ≡ false → SpelledRest false false (a ∷ r)
    → HasLength (PairsFrom (utf16_missing (Half false false a))) (length r)
big_length a r d h =
    elim (high_cases a) [
      | inl x ↦ rw x.2 (three_less a r h.0 x.0 x.1 h.1.0 h.1.1)
      | inr x ↦ rw x.1 (one_less false false a r h.0 h.1.0 h.1.1)
    ]

some_big : (a : ℕ) → a < 256 → is_low_octet a ≡ false → (k : ℕ)
    → HasLength (PairsFrom (utf16_missing (Half false false a))) k → (t : List ℕ)
    × (SpelledRest false false (a ∷ 0 ∷ t) × (suc (length t) ≡ k))
some_big a l d k h =
    elim (high_cases a) [
      | inl x ↦
          let e : (m : ℕ) × (k ≡ 3 + 2 * m) = rw x.2 at h in
          let t = some_units e.0 in
          let us = 0xdc00 ∷ t.0 in (
            spelled false us,
            (
              (
                (a * 256 + 0) ∷ us,
                (
                  units_paired _ us (omega arith) (omega arith)
                      (omega arith, omega arith, t.1.0),
                  big_octets a 0 us (omega arith),
                ),
              ),
              omega (arith, spelled_length false us, t.1.1, e.1),
            ),
          )
      | inr x ↦
          let e : (m : ℕ) × (k ≡ 1 + 2 * m) = rw x.1 at h in
          let t = some_units e.0 in (
            spelled false t.0,
            (
              (
                (a * 256 + 0) ∷ t.0,
                (
                  units_alone _ t.0 (omega arith) (not_surrogate a x.0 d) t.1.0,
                  big_octets a 0 t.0 (omega arith),
                ),
              ),
              omega (arith, spelled_length false t.0, t.1.1, e.1),
            ),
          )
    ]

-- ---- the octet that a unit begins with

begins_some : (little paired : Bool) (a : ℕ) → begins_none little paired a ≡ false → a < 256
begins_some true paired a d = grind (arith, nat_tests)
begins_some false true a d = let low = low_from_test a d in omega arith
begins_some false false a d = let p = or_parts (is_low_octet a) (nat_le 256 a) d in let q = p.1
    in grind (arith, nat_tests)

half_lengths : (little paired : Bool) (a : ℕ) → begins_none little paired a ≡ false
    → AreLengths (λ r. SpelledRest little paired (a ∷ r)) (PairsFrom (utf16_missing (Half little paired a)))
half_lengths true true a d = let l = begins_some true true a d in record {
  all = λ r h. one_less true true a r h.0 h.1.0 h.1.1;
  each = λ k h. some_half true true a 0xdc 0 h.0 [] refl
      (λ us j. ((0xdc * 256 + a) ∷ us, ((omega arith, omega arith, j), little_octets a 0xdc us l))) k h.1;
}
half_lengths true false a d = let l = begins_some true false a d in record {
  all = λ r h. one_less true false a r h.0 h.1.0 h.1.1;
  each = λ k h. some_half true false a 0 0 h.0 [] refl
      (λ us j. ((0 * 256 + a) ∷ us, (units_alone _ us (omega arith) (inl (omega arith)) j, little_octets a 0 us l))) k
      h.1;
}
half_lengths false true a d =
    let low = low_from_test a d in
    record {
      all = λ r h. one_less false true a r h.0 h.1.0 h.1.1;
      each = λ k h. some_half false true a 0 0 h.0 [] refl
          (λ us j. ((a * 256 + 0) ∷ us, ((omega arith, omega arith, j), big_octets a 0 us (omega arith)))) k h.1;
    }
half_lengths false false a d = let l = begins_some false false a d
    in let e = (or_parts (is_low_octet a) (nat_le 256 a) d).0 in record {
      all = λ r h. big_length a r e h;
      each = λ k h. let t = some_big a l e k h in (0 ∷ t.0, (t.1.0, t.1.1));
    }

-- ---- the text's first octet

one_octet : (a : ℕ) → IsUtf16 (a ∷ []) → ⊥
one_octet a h = omega (arith, spelled_length false h.0, ap length h.1.1)

marked_length : (little : Bool) (r : List ℕ) → IsSpelled little r → (m : ℕ) × (suc (length r) ≡ 1 + 2 * m)
marked_length little r h = (length h.0, omega (arith, spelled_length little h.0, ap length h.1.1))

first_length : (a : ℕ) (r : List ℕ) → is_low_octet a ≡ false → IsUtf16 (a ∷ r)
    → HasLength (PairsFrom (utf16_missing (First a))) (length r)
first_length a [] d h = absurd (one_octet a h)
first_length a (b ∷ r) d h =
    elim (cases_eq a 0xfe) [
      | inl p ↦ elim (cases_eq b 0xff) [
        | inl q ↦ rw p (marked_length false r (rw (p, q) at h))
        | inr q ↦ big_length a (b ∷ r) d ((text_of_no_mark a b r (λ _. q) (λ x. absurd (omega arith))).1 h)
      ]
      | inr p ↦ elim (cases_eq a 0xff) [
        | inl x ↦ elim (cases_eq b 0xfe) [
          | inl q ↦ rw x (marked_length true r (rw (x, q) at h))
          | inr q ↦ big_length a (b ∷ r) d ((text_of_no_mark a b r (λ y. absurd (p y)) (λ _. q)).1 h)
        ]
        | inr x ↦ big_length a (b ∷ r) d ((text_of_no_mark a b r (λ y. absurd (p y)) (λ y. absurd (x y))).1 h)
      ]
    ]

first_octet_lengths : (a : ℕ) → begins_none false false a ≡ false
    → AreLengths (λ r. IsUtf16 (a ∷ r)) (PairsFrom (utf16_missing (First a)))
first_octet_lengths a f = let l = begins_some false false a f in let d = (or_parts (is_low_octet a) (nat_le 256 a) f).0
    in record {
      all = λ r h. first_length a r d h;
      each = λ k h. let t = some_big a l d k h in (
        0 ∷ t.0,
        ((text_of_no_mark a 0 t.0 (λ p q. absurd (omega arith)) (λ p q. absurd (omega arith))).0 t.1.0, t.1.1),
      );
    }

even_length : (little : Bool) (r : List ℕ) → IsSpelled little r → (m : ℕ) × (length r ≡ 2 * m)
even_length little r h = (length h.0, omega (arith, spelled_length little h.0, ap length h.1.1))

-- a text of two octets and more has a mark or none
first_cases : (a b : ℕ) (r : List ℕ) → IsUtf16 (a ∷ b ∷ r)
    → ((a < 256) × (b < 256) × ((little : Bool) × IsSpelled little r)) ⊎ IsSpelled false (a ∷ b ∷ r)
first_cases a b r h =
    elim (cases_eq a 0xfe) [
      | inl p ↦ elim (cases_eq b 0xff) [
        | inl q ↦ inl (omega arith, omega arith, (false, rw (p, q) at h))
        | inr q ↦ inr ((text_of_no_mark a b r (λ _. q) (λ x. absurd (omega arith))).1 h)
      ]
      | inr p ↦ elim (cases_eq a 0xff) [
        | inl x ↦ elim (cases_eq b 0xfe) [
          | inl q ↦ inl (omega arith, omega arith, (true, rw (x, q) at h))
          | inr q ↦ inr ((text_of_no_mark a b r (λ y. absurd (p y)) (λ _. q)).1 h)
        ]
        | inr x ↦ inr ((text_of_no_mark a b r (λ y. absurd (p y)) (λ y. absurd (x y))).1 h)
      ]
    ]

start_length : (r : List ℕ) → IsUtf16 r → (m : ℕ) × (length r ≡ 0 + 2 * m)
start_length [] h = (0, omega arith)
start_length (a ∷ []) h = absurd (one_octet a h)
start_length (a ∷ b ∷ r) h =
    elim (first_cases a b r h) [
      | inl x ↦ (suc (even_length x.2.0 r x.2.1).0, omega (arith, (even_length x.2.0 r x.2.1).1))
      | inr x ↦ let e = even_length false (a ∷ b ∷ r) x in (e.0, omega (arith, e.1))
    ]

pub utf16_start_lengths : AreLengths IsUtf16 (PairsFrom 0)
utf16_start_lengths = record { all = start_length; each = λ k h. some_text k h.0 h.1 }
  where
    some_text : (k m : ℕ) → k ≡ 0 + 2 * m → (r : List ℕ) × (IsUtf16 r × (length r ≡ k))
    some_text k zero e = ([], (([], (no_units, refl)), omega arith))
    some_text k (suc m) e =
        let t = some_units m in (
          0 ∷ 97 ∷ spelled false t.0,
          (
            (97 ∷ t.0, (units_alone 97 t.0 (omega arith) (inl (omega arith)) t.1.0, refl)),
            omega (arith, spelled_length false t.0, t.1.1),
          ),
        )

-- ---- where nothing completes a text

no_big : (paired : Bool) (a : ℕ) (r us : List ℕ) → begins_none false paired a ≡ true → UnitsRest paired us
    → spelled false us ≡ a ∷ r → ⊥
no_big paired a r [] d h e = absurd (cc)
no_big true a r (u ∷ us) d h e =
    let x : u / 256 ≡ a = cc in
    let t : is_low_octet a ≡ true = rw (le-leb 0xdc a (omega arith), lt-ltb a 0xe0 (omega arith)) refl in
    let f : not (is_low_octet a) ≡ false = rw t refl in
    cc
no_big false a r (u ∷ us) d h e =
    let x : u / 256 ≡ a = cc in
    let small = unit_is_small u us h in
    by_test (is_low_octet a) refl (omega arith)
  where
    by_test : (low : Bool) → is_low_octet a ≡ low → a < 256 → ⊥
    by_test true t l = let p = low_octet_test a t in let x : u / 256 ≡ a = cc
        in unit_lone_low false u (spelled false us) (omega arith, omega arith) (us, (h, refl))
    by_test false t l = let f : (is_low_octet a || nat_le 256 a) ≡ false = rw (t, lt-leb 256 a l) refl in cc

no_little : (paired : Bool) (a : ℕ) (r us : List ℕ) → nat_le 256 a ≡ true → spelled true us ≡ a ∷ r → ⊥
no_little paired a r [] d e = cc
no_little paired a r (u ∷ us) d e = let x : u % 256 ≡ a = cc in let l = leb-true 256 a d in omega arith

no_half : (little paired : Bool) (a : ℕ) (r : List ℕ) → begins_none little paired a ≡ true
    → SpelledRest little paired (a ∷ r) → ⊥
no_half true paired a r d h = no_little paired a r h.0 d h.1.1
no_half false paired a r d h = no_big paired a r h.0 d h.1.0 h.1.1

no_first : (a : ℕ) (r : List ℕ) → begins_none false false a ≡ true → IsUtf16 (a ∷ r) → ⊥
no_first a [] d h = one_octet a h
no_first a (b ∷ r) d h =
    elim (cases_lt a 0xe0) [
      | inl l ↦ no_half false false a (b ∷ r) d ((text_of_no_mark a b r (λ p q. omega arith) (λ p q. omega arith)).1 h)
      | inr l ↦ elim (cases_lt a 0x100) [
        | inl m ↦ let f : (is_low_octet a || nat_le 256 a) ≡ false = rw
            (le-ltb a 0xe0 l, lt-leb 256 a m, le-leb 0xdc a (omega arith)) refl in cc
        | inr m ↦ no_half false false a (b ∷ r) d
            ((text_of_no_mark a b r (λ p q. omega arith) (λ p q. omega arith)).1 h)
      ]
    ]

pub utf16_never : (state : Utf16State) → utf16_refused state ≡ true → (r : List ℕ) → CompletesUtf16 state r → ⊥
utf16_never Start d r h = absurd (cc)
utf16_never (First a) d r h = no_first a r d h
utf16_never (Whole little paired) d r h = absurd (cc)
utf16_never (Half little paired a) d r h = no_half little paired a r d h
utf16_never Refused d r h = h

-- ---- all lengths

pub alive_lengths : (state : Utf16State) → utf16_refused state ≡ false
    → AreLengths (CompletesUtf16 state) (PairsFrom (utf16_missing state))
alive_lengths Start d = utf16_start_lengths
alive_lengths (First a) d = first_octet_lengths a d
alive_lengths (Whole little paired) d = whole_lengths little paired
alive_lengths (Half little paired a) d = half_lengths little paired a d
alive_lengths Refused d = absurd (cc)

pub are_utf16_lengths : (state : Utf16State) → AreLengths (CompletesUtf16 state) (utf16_lengths state)
are_utf16_lengths state = by_test (utf16_refused state) refl
  where
    by_test : (refused : Bool) → utf16_refused state ≡ refused
        → AreLengths (CompletesUtf16 state) (if refused then Never else PairsFrom (utf16_missing state))
    by_test true d = record { all = utf16_never state d; each = λ k h. absurd h }
    by_test false d = alive_lengths state d

-- ---- octets

units_are_small : (cs : List ℕ) → scalars cs ≡ true → AllByRecursion (λ u. u < 65536) (units_of cs)
units_are_small [] ok = tt
units_are_small (c ∷ cs) ok =
    let p = and_parts (scalar c) (scalars cs) ok in
    let range = scalar_cases c p.0 in
    let later = units_are_small cs p.1 in
    elim (cases_lt c 0x10000) [
      | inl a ↦ rw (lt-ltb c 0x10000 a) (a, later)
      | inr a ↦ rw (le-ltb c 0x10000 a)
          (omega arith, (omega arith, later))
    ]

spelled_octets : (little : Bool) (us : List ℕ) → AllByRecursion (λ u. u < 65536) us → AreOctets (spelled little us)
spelled_octets little [] h = tt
spelled_octets true (u ∷ us) h = (omega arith, (omega arith, spelled_octets true us h.1))
spelled_octets false (u ∷ us) h = (omega arith, (omega arith, spelled_octets false us h.1))

rest_is_small : (paired : Bool) (us : List ℕ) → UnitsRest paired us → AllByRecursion (λ u. u < 65536) us
rest_is_small false us h = subst (AllByRecursion (λ u. u < 65536)) h.1.1 (units_are_small h.0 h.1.0)
rest_is_small true [] h = tt
rest_is_small true (v ∷ us) h = (omega arith, rest_is_small false us h.2)

rest_octets : (little paired : Bool) (r : List ℕ) → SpelledRest little paired r → AreOctets r
rest_octets little paired r h = subst AreOctets h.1.1 (spelled_octets little h.0 (rest_is_small paired h.0 h.1.0))

pub utf16_octets : (r : List ℕ) → IsUtf16 r → AreOctets r
utf16_octets [] h = tt
utf16_octets (a ∷ []) h = absurd (one_octet a h)
utf16_octets (a ∷ b ∷ r) h =
    elim (first_cases a b r h) [
      | inl x ↦ (x.0, (x.1, rest_octets x.2.0 false r x.2.1))
      | inr x ↦ rest_octets false false (a ∷ b ∷ r) x
    ]

pub completes_utf16_octets : (state : Utf16State) (r : List ℕ) → CompletesUtf16 state r → AreOctets r
completes_utf16_octets Start r h = utf16_octets r h
completes_utf16_octets (First a) r h = (utf16_octets (a ∷ r) h).1
completes_utf16_octets (Whole little paired) r h = rest_octets little paired r h
completes_utf16_octets (Half little paired a) r h = (rest_octets little paired (a ∷ r) h).1
completes_utf16_octets Refused r h = absurd h
