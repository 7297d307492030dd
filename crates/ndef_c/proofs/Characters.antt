-- Characters in UTF-16, one after another.
use Rattle.std.proofs.Common.{◌≡◌, ℕ, ◌+◌, ◌-◌, ◌*◌, ◌/◌, ◌%◌, ◌<◌, ◌≤◌, ◌⊎◌, Bool, true, false, List, [], ◌∷◌, ◌++◌, length, refl, sym, ◌∙◌, ap, subst, inl, inr, arith, lt-ltb, le-ltb, append_assoc, append-nil, length-append, encode_utf8_all}
use Rattle.std.proofs.lemmas.Bool.{cases_lt, and_parts}
use Rattle.std.proofs.lemmas.Str.{len_utf8_bounds, length-encode}
use Rattle.std.specs.Char.{InScalarRange}
use Rattle.std.specs.Char.Escape.{encode_utf16}
use lib.Utf8.{scalar, scalars, scalar_cases, encode}
use Rattle.ndef_format.specs.Texts.{units_of, spelled, unit_octets}
use Rattle.ndef_lang.specs.Machine.Utf16Laws.{spelled_length}
use Rattle.ndef_types.specs.UnitLaws.{same_unit}
use Rattle.ndef_c.proofs.Puts.{puts_on}
use Rattle.ndef_c.specs.Buffers.{Puts}
use Rattle.ndef_c.specs.Texts.{AreSpelled}
use Rattle.ndef_c.specs.declared.out.Out.{Out}

-- ---- one unit

pub same_front : (little : Bool) (u v : ℕ) (x y : List ℕ) → unit_octets little u ++ x ≡ unit_octets little v ++ y → (u ≡ v) × (x ≡ y)
same_front true u v x y e =
    let a : u % 256 ≡ v % 256 = cc in
    let b : u / 256 ≡ v / 256 = cc in
    let t : x ≡ y = cc in
    (same_unit u v b a, t)
same_front false u v x y e =
    let a : u % 256 ≡ v % 256 = cc in
    let b : u / 256 ≡ v / 256 = cc in
    let t : x ≡ y = cc in
    (same_unit u v b a, t)

two : (little : Bool) (u : ℕ) (x : List ℕ) → length (unit_octets little u ++ x) ≡ 2 + length x
two true u x = omega arith
two false u x = omega arith

one_unit : (c : ℕ) → c < 0x10000 → encode_utf16 c ≡ c ∷ []
one_unit c a = rw (lt-ltb c 0x10000 a) refl

pair_of : (c : ℕ) → 0x10000 ≤ c → encode_utf16 c ≡ (0xD800 + (c - 0x10000) / 0x400) ∷ (0xDC00 + (c - 0x10000) % 0x400) ∷ []
pair_of c a = rw (le-ltb c 0x10000 a) refl

units_some : (c : ℕ) → 1 ≤ length (encode_utf16 c)
units_some c = elim (cases_lt c 0x10000) [ inl x ↦ (let l = ap length (one_unit c x) in omega (arith, l)) | inr x ↦ (let l = ap length (pair_of c x) in omega (arith, l)) ]

-- ---- the first character

pub range_of : (little : Bool) (c : ℕ) (cs octets : List ℕ) → AreSpelled little (c ∷ cs) octets → (c < 0xd800) ⊎ ((0xe000 ≤ c) × (c < 0x110000))
range_of little c cs octets a = scalar_cases c (and_parts (scalar c) (scalars cs) a.scalars).0

pub in_range : (little : Bool) (c : ℕ) (cs octets : List ℕ) → AreSpelled little (c ∷ cs) octets → InScalarRange c
in_range little c cs octets a = elim (range_of little c cs octets a) [ inl x ↦ inl x | inr x ↦ inr (x.0, omega (arith, x.1)) ]

later : (little : Bool) (c : ℕ) (cs octets following : List ℕ) → AreSpelled little (c ∷ cs) octets → spelled little (units_of cs) ≡ following → AreSpelled little cs following
later little c cs octets following a e = record { scalars = (and_parts (scalar c) (scalars cs) a.scalars).1; are = e }

-- it has one unit, or this is the first of two
abbrev pub FirstUnit : (little : Bool) (c : ℕ) (cs : List ℕ) (u : ℕ) (rest : List ℕ) → Type 0
FirstUnit little c cs u rest =
    ((c < 0x10000) × (u ≡ c) × AreSpelled little cs rest)
    ⊎ ((0x10000 ≤ c) × (u ≡ 0xD800 + (c - 0x10000) / 0x400) × (rest ≡ unit_octets little (0xDC00 + (c - 0x10000) % 0x400) ++ spelled little (units_of cs)))

pub first_unit : (little : Bool) (c : ℕ) (cs octets : List ℕ) (u : ℕ) (rest : List ℕ) → AreSpelled little (c ∷ cs) octets → octets ≡ unit_octets little u ++ rest → FirstUnit little c cs u rest
first_unit little c cs octets u rest a e = elim (cases_lt c 0x10000) [
  | inl x ↦
      (let s = same_front little u c rest (spelled little (units_of cs)) (sym e ∙ sym a.are ∙ ap (λ us. spelled little (us ++ units_of cs)) (one_unit c x)) in
      inl (x, s.0, later little c cs octets rest a (sym s.1)))
  | inr x ↦
      (let s = same_front little u (0xD800 + (c - 0x10000) / 0x400) rest (unit_octets little (0xDC00 + (c - 0x10000) % 0x400) ++ spelled little (units_of cs))
      (sym e ∙ sym a.are ∙ ap (λ us. spelled little (us ++ units_of cs)) (pair_of c x)) in
      inr (x, s.0, s.1))
]

pub some_unit : (little : Bool) (c : ℕ) (cs octets : List ℕ) → AreSpelled little (c ∷ cs) octets → 2 + 2 * length (units_of cs) ≤ length octets
some_unit little c cs octets a =
    let n = sym (ap length a.are) ∙ spelled_length little (units_of (c ∷ cs)) in
    let k = length-append (encode_utf16 c) (units_of cs) in
    let one = units_some c in
    omega (arith, n, k, one)

-- a unit that is no surrogate is the character
pub record IsAlone (little : Bool) (c : ℕ) (cs : List ℕ) (u : ℕ) (rest : List ℕ) : Type 0 where
  pub same : u ≡ c
  pub following : AreSpelled little cs rest

pub alone : (little : Bool) (c : ℕ) (cs octets : List ℕ) (u : ℕ) (rest : List ℕ) → AreSpelled little (c ∷ cs) octets → octets ≡ unit_octets little u ++ rest → ((0xd800 ≤ u) × (u < 0xe000) → ⊥) → IsAlone little c cs u rest
alone little c cs octets u rest a e h = by (first_unit little c cs octets u rest a e) (range_of little c cs octets a) h
  where
    by : FirstUnit little c cs u rest → (c < 0xd800) ⊎ ((0xe000 ≤ c) × (c < 0x110000)) → ((0xd800 ≤ u) × (u < 0xe000) → ⊥) → IsAlone little c cs u rest
    by (inl x) r h = record { same = x.1; following = x.2 }
    by (inr x) (inl r) h = absurd (omega (arith, x.0, r))
    by (inr x) (inr r) h = absurd (h (omega (arith, x.1), omega (arith, x.0, x.1, r.1)))

-- a surrogate is the first of two units
pub record IsFirstOfTwo (little : Bool) (c : ℕ) (cs : List ℕ) (u : ℕ) (rest : List ℕ) : Type 0 where
  pub high : u < 0xdc00
  pub enough : 2 ≤ length rest
  pub scalar : (0x10000 ≤ c) × (c < 0x110000)
  pub second : (v : ℕ) (following : List ℕ) → rest ≡ unit_octets little v ++ following
      → (0xdc00 ≤ v) × (v < 0xe000) × (0x10000 + (u - 0xd800) * 0x400 + (v - 0xdc00) ≡ c) × AreSpelled little cs following

pub first_of_two : (little : Bool) (c : ℕ) (cs octets : List ℕ) (u : ℕ) (rest : List ℕ) → AreSpelled little (c ∷ cs) octets → octets ≡ unit_octets little u ++ rest → 0xd800 ≤ u → u < 0xe000 → IsFirstOfTwo little c cs u rest
first_of_two little c cs octets u rest a e h l = by (first_unit little c cs octets u rest a e) (range_of little c cs octets a)
  where
    by : FirstUnit little c cs u rest → (c < 0xd800) ⊎ ((0xe000 ≤ c) × (c < 0x110000)) → IsFirstOfTwo little c cs u rest
    by (inl x) (inl r) = absurd (omega (arith, x.1, r, h))
    by (inl x) (inr r) = absurd (omega (arith, x.1, r.0, l))
    by (inr x) (inl r) = absurd (omega (arith, x.0, r))
    by (inr x) (inr r) =
        let n = ap length x.2 ∙ two little (0xDC00 + (c - 0x10000) % 0x400) (spelled little (units_of cs)) in
        record {
          high = omega (arith, x.0, x.1, r.1);
          enough = omega (arith, n);
          scalar = (x.0, r.1);
          second = λ v following f.
              let s = same_front little v (0xDC00 + (c - 0x10000) % 0x400) following (spelled little (units_of cs)) (sym f ∙ x.2) in
              (omega (arith, s.0), omega (arith, s.0), omega (arith, s.0, x.0, x.1), later little c cs octets following a (sym s.1));
        }

-- ---- all characters

pub record Next (little : Bool) (cs rest : List ℕ) : Type 0 where
  pub c : ℕ
  pub more : List ℕ
  pub is : cs ≡ c ∷ more
  pub are : AreSpelled little (c ∷ more) rest

pub next_of : (little : Bool) (cs rest : List ℕ) → AreSpelled little cs rest → 0 < length rest → Next little cs rest
next_of little [] rest a h = let n = ap length a.are in absurd (omega (arith, n, h))
next_of little (c ∷ cs) rest a h = record { c = c; more = cs; is = refl; are = a }

pub none_left : (little : Bool) (cs rest : List ℕ) → AreSpelled little cs rest → length rest ≡ 0 → cs ≡ []
none_left little [] rest a h = refl
none_left little (c ∷ cs) rest a h = let n = some_unit little c cs rest a in absurd (omega (arith, n, h))

pub shorter : (little : Bool) (c : ℕ) (cs octets following : List ℕ) → AreSpelled little (c ∷ cs) octets → AreSpelled little cs following → 2 + length following ≤ length octets
shorter little c cs octets following a b =
    let n = some_unit little c cs octets a in
    let m = sym (ap length b.are) ∙ spelled_length little (units_of cs) in
    omega (arith, n, m)

encoded_on : (done : List ℕ) (c : ℕ) → encode_utf8_all (done ++ c ∷ []) ≡ encode_utf8_all done ++ encode c
encoded_on [] c = append-nil (encode c)
encoded_on (d ∷ done) c = ap (λ x. encode d ++ x) (encoded_on done c) ∙ sym (append_assoc (encode d) (encode_utf8_all done) (encode c))

-- these characters were written, and others are left
pub record Putting (little : Bool) (cs rest : List ℕ) (old new : Out) : Type 0 where
  pub done : List ℕ
  pub left : List ℕ
  pub all : done ++ left ≡ cs
  pub are : AreSpelled little left rest
  pub puts : Puts old (encode_utf8_all done) new

pub putting_at : {little : Bool} {cs rest : List ℕ} {out : Out} → AreSpelled little cs rest → Puts out [] out → Putting little cs rest out out
putting_at {little} {cs} {rest} {out} a p = record { done = []; left = cs; all = refl; are = a; puts = p }

pub putting_on : {little : Bool} {cs rest : List ℕ} {old mid new : Out} (p : Putting little cs rest old mid) (c : ℕ) (more text following : List ℕ) → p.left ≡ c ∷ more → text ≡ encode c
    → AreSpelled little more following → Puts mid text new → Putting little cs following old new
putting_on {little} {cs} {rest} {old} {mid} {new} p c more text following l t a q = record {
  done = p.done ++ c ∷ [];
  left = more;
  all = append_assoc p.done (c ∷ []) more ∙ ap (λ x. p.done ++ x) (sym l) ∙ p.all;
  are = a;
  puts = subst (λ x. Puts old x new) (ap (λ x. encode_utf8_all p.done ++ x) t ∙ sym (encoded_on p.done c)) (puts_on p.puts q);
}

pub all_put : {little : Bool} {cs rest : List ℕ} {old new : Out} → Putting little cs rest old new → length rest ≡ 0 → Puts old (encode_utf8_all cs) new
all_put {little} {cs} {rest} {old} {new} p h =
    subst (λ x. Puts old (encode_utf8_all x) new) (sym (append-nil p.done) ∙ ap (λ x. p.done ++ x) (sym (none_left little p.left rest p.are h)) ∙ p.all) p.puts

-- ---- their length

encoded_units : (cs : List ℕ) → length (encode_utf8_all cs) ≤ 4 * length (units_of cs)
encoded_units [] = omega arith
encoded_units (c ∷ cs) =
    let n = length-append (encode c) (encode_utf8_all cs) in
    let m = length-append (encode_utf16 c) (units_of cs) in
    let four = (len_utf8_bounds c).1 in
    let e = length-encode c in
    let one = units_some c in
    let more = encoded_units cs in
    omega (arith, n, m, four, e, one, more)

-- a unit of two octets stands for up to four
pub encoded_length : (little : Bool) (cs octets : List ℕ) → AreSpelled little cs octets → length (encode_utf8_all cs) ≤ 2 * length octets
encoded_length little cs octets a =
    let n = sym (ap length a.are) ∙ spelled_length little (units_of cs) in
    let k = encoded_units cs in
    omega (arith, n, k)
