-- Payloads from their parts, as a slice's pattern cuts them.
use Rattle.std.proofs.Common.{◌≡◌, ℕ, zero, suc, ◌+◌, ◌-◌, ◌*◌, ◌/◌, ◌%◌, ◌<◌, ◌≤◌, ◌⊎◌, inl, inr, Bool, true, false, if◌then◌else◌, List, [], ◌∷◌, length, get_or, take, drop, refl, sym, ◌∙◌, ap, subst, arith}
use Rattle.std.proofs.lemmas.Bool.{lt-leb}
use Rattle.std.specs.List.{AllByRecursion}
use Rattle.ndef_format.specs.Records.{AreOctets}
use Rattle.ndef_value.specs.SliceLaws.{after_drop, rest_from, octet_at, octets_after, cut_one, cut_two}
use Rattle.ndef_format.specs.Handovers.{AreReferences}
use Rattle.ndef_format.specs.Octets.{Counted, IsOctet, Octets}
use Rattle.ndef_format.specs.Texts.{IsCodeOctet, IsTextIn, IsText, is_wide, IsSpelled, spelled}
use Rattle.ndef_lang.specs.Machine.Utf16Laws.{units_alone, units_paired, no_units}
use Rattle.ndef_lang.proofs.AsciiLemmas.{ascii_is_utf8, ascii_parts}

-- ---- fields

pub field_from : (passes : ℕ → Type 0) (n : ℕ) (set : List ℕ → Type 0) (s : List ℕ) → n ≤ length s → AllByRecursion passes (take n s) → set (drop n s) → Octets passes n set s
field_from passes zero set s l h t = t
field_from passes (suc n) set [] l h t = absurd (omega arith)
field_from passes (suc n) set (x ∷ s) l h t = (h.0, field_from passes n set s (omega arith) h.1 t)

-- a status octet, a code of length k and a text
pub text_from : (s : List ℕ) (k : ℕ) → AreOctets s → 1 ≤ length s → get_or s 0 0 % 128 < 64 → k ≡ get_or s 0 0 % 64 → k ≤ length (rest_from 1 s)
    → AllByRecursion IsCodeOctet (take k (rest_from 1 s)) → IsTextIn (is_wide (get_or s 0 0)) (drop k (rest_from 1 s)) → IsText s
text_from s k octets some plain is long code text =
    let status = get_or s 0 0 in
    let wide = is_wide status in
    let small = octet_at s 0 octets in
    let rest = rest_from 1 s in
    let tail : Octets IsCodeOctet (status % 64) (IsTextIn wide) rest = subst (λ k. Octets IsCodeOctet k (IsTextIn wide) rest) is (field_from IsCodeOctet k (IsTextIn wide) rest long code text) in
    subst IsText (cut_one s some) (small, (λ h. omega arith), tail)

-- a status octet of UTF-8, and a code of length k and a text that are ASCII together
pub ascii_text_from : (s : List ℕ) (k : ℕ) → AreOctets s → 1 ≤ length s → get_or s 0 0 % 128 < 64 → k ≡ get_or s 0 0 % 64 → k ≤ length (rest_from 1 s)
    → get_or s 0 0 < 128 → AllByRecursion IsCodeOctet (rest_from 1 s) → IsText s
ascii_text_from s k octets some plain is long narrow h =
    let p = ascii_parts k (rest_from 1 s) h in
    let wide : is_wide (get_or s 0 0) ≡ false = lt-leb 128 (get_or s 0 0) narrow in
    text_from s k octets some plain is long p.0 (subst (λ w. IsTextIn w (drop k (rest_from 1 s))) (sym wide) (ascii_is_utf8 _ p.1))

-- ---- counted fields

octets_take : (n : ℕ) (s : List ℕ) → AreOctets s → AllByRecursion IsOctet (take n s)
octets_take zero s h = tt
octets_take (suc n) [] h = tt
octets_take (suc n) (x ∷ s) h = (h.0, octets_take n s h.1)

-- an octet, and what is in the set
pub octet_from : (set : List ℕ → Type 0) (s : List ℕ) → AreOctets s → 1 ≤ length s → set (rest_from 1 s) → Octets IsOctet 1 set s
octet_from set s octets some t = subst (Octets IsOctet 1 set) (cut_one s some) (octet_at s 0 octets, t)

-- a length octet, that many octets, and what is in the set
pub counted_from : (set : List ℕ → Type 0) (s : List ℕ) (k : ℕ) → AreOctets s → 1 ≤ length s → k ≡ get_or s 0 0 → k ≤ length (rest_from 1 s) → set (rest_from k (rest_from 1 s)) → Counted set s
counted_from set s k octets some is long t =
    let rest = rest_from 1 s in
    let field = field_from IsOctet k set rest long (octets_take k rest (octets_after 1 s octets)) (subst set (after_drop k rest) t) in
    subst (Counted set) (cut_one s some) (octet_at s 0 octets, subst (λ n. Octets IsOctet n set rest) is field)

-- a reference after its length, and the other references
pub references_from : (left : ℕ) (s : List ℕ) (k : ℕ) → AreOctets s → 0 < left → 1 ≤ length s → k ≡ get_or s 0 0 → k ≤ length (rest_from 1 s) → AreReferences (left - 1) (rest_from k (rest_from 1 s)) → AreReferences left s
references_from zero s k octets more some is long t = absurd (omega arith)
references_from (suc n) s k octets more some is long t =
    let less : suc n - 1 ≡ n = omega arith in
    counted_from (AreReferences n) s k octets some is long (subst (λ m. AreReferences m (rest_from k (rest_from 1 s))) less t)

-- ---- units of UTF-16

-- the most significant octet of the unit of these two
abbrev pub most_of : Bool → ℕ → ℕ → ℕ
most_of little a b = if little then b else a

abbrev pub least_of : Bool → ℕ → ℕ → ℕ
least_of little a b = if little then a else b

abbrev unit_of : Bool → ℕ → ℕ → ℕ
unit_of little a b = most_of little a b * 256 + least_of little a b

spelled_unit : (little : Bool) (a b : ℕ) (us : List ℕ) → a < 256 → b < 256 → spelled little (unit_of little a b ∷ us) ≡ a ∷ b ∷ spelled little us
spelled_unit false a b us h k = let x : (a * 256 + b) / 256 ≡ a = omega arith in let y : (a * 256 + b) % 256 ≡ b = omega arith in λ i. x i ∷ y i ∷ spelled false us
spelled_unit true a b us h k = let x : (b * 256 + a) / 256 ≡ b = omega arith in let y : (b * 256 + a) % 256 ≡ a = omega arith in λ i. y i ∷ x i ∷ spelled true us

most_small : (little : Bool) (a b : ℕ) → a < 256 → b < 256 → (most_of little a b < 256) × (least_of little a b < 256)
most_small true a b h k = (k, h)
most_small false a b h k = (h, k)

pub unit_alone : (little : Bool) (a b : ℕ) (s : List ℕ) → a < 256 → b < 256 → (most_of little a b < 0xd8) ⊎ (0xe0 ≤ most_of little a b) → IsSpelled little s → IsSpelled little (a ∷ b ∷ s)
unit_alone little a b s p q h r =
    let m = most_small little a b p q in
    (unit_of little a b ∷ r.0, (units_alone _ r.0 (omega arith) (elim h [ inl x ↦ inl (omega arith) | inr x ↦ inr (omega arith) ]) r.1.0, spelled_unit little a b r.0 p q ∙ ap (λ t. a ∷ b ∷ t) r.1.1))

pub unit_pair : (little : Bool) (a b c d : ℕ) (s : List ℕ) → a < 256 → b < 256 → c < 256 → d < 256 → 0xd8 ≤ most_of little a b → most_of little a b < 0xdc
    → 0xdc ≤ most_of little c d → most_of little c d < 0xe0 → IsSpelled little s → IsSpelled little (a ∷ b ∷ c ∷ d ∷ s)
unit_pair little a b c d s p q x y h k l m r =
    let m1 = most_small little a b p q in
    let m2 = most_small little c d x y in (
      unit_of little a b ∷ unit_of little c d ∷ r.0,
      (
        units_paired _ _ (omega arith) (omega arith) (omega arith, omega arith, r.1.0),
        spelled_unit little a b (unit_of little c d ∷ r.0) p q ∙ ap (λ t. a ∷ b ∷ t) (spelled_unit little c d r.0 x y ∙ ap (λ t. c ∷ d ∷ t) r.1.1),
      ),
    )

-- two octets and the rest, by the most significant one
pub alone_at : (little : Bool) (most : ℕ) (s : List ℕ) → AreOctets s → 2 ≤ length s → most ≡ most_of little (get_or s 0 0) (get_or s 1 0) → (most < 0xd8) ⊎ (0xe0 ≤ most) → IsSpelled little (rest_from 2 s) → IsSpelled little s
alone_at little most s octets two is h r =
    subst (IsSpelled little) (cut_two s two) (unit_alone little _ _ (rest_from 2 s) (octet_at s 0 octets) (octet_at s 1 octets) (rw is at h) r)

-- four octets and the rest
pub pair_at : (little : Bool) (most second : ℕ) (s : List ℕ) → AreOctets s → 2 ≤ length s → 2 ≤ length (rest_from 2 s) → most ≡ most_of little (get_or s 0 0) (get_or s 1 0)
    → second ≡ most_of little (get_or (rest_from 2 s) 0 0) (get_or (rest_from 2 s) 1 0) → 0xd8 ≤ most → most < 0xdc → 0xdc ≤ second → second < 0xe0
    → IsSpelled little (rest_from 2 (rest_from 2 s)) → IsSpelled little s
pair_at little most second s octets two four is is2 h k l m r =
    let rest = rest_from 2 s in
    let octets_rest = octets_after 2 s octets in
    let tail : IsSpelled little (get_or s 0 0 ∷ get_or s 1 0 ∷ get_or rest 0 0 ∷ get_or rest 1 0 ∷ rest_from 2 rest) =
    unit_pair little _ _ _ _ (rest_from 2 rest) (octet_at s 0 octets) (octet_at s 1 octets) (octet_at rest 0 octets_rest) (octet_at rest 1 octets_rest) (omega arith) (omega arith) (omega arith) (omega arith) r in
    subst (IsSpelled little) (cut_two s two) (subst (λ t. IsSpelled little (get_or s 0 0 ∷ get_or s 1 0 ∷ t)) (cut_two rest four) tail)
