-- The octets of a payload length, and the numbers that a front of them can spell.
use Rattle.std.proofs.Common.{◌≡◌, ℕ, ◌/◌, ◌%◌, ◌^◌, ◌<◌, ◌≤◌, Bool, true, false, cond, refl, ap, arith, List, [], ◌∷◌, ◌++◌, length}
use Rattle.std.specs.Int.{w32, to_be_bytes}
use Rattle.ndef_format.specs.Records.{payload_length_octets, FitsForm, AreOctets}
use Rattle.ndef_format.specs.HeadReasons.{least_from}
use Rattle.ndef_piece.specs.Ranges.{greatest_from}

-- the octets of a number in the long form begin with what can spell it
big_within : (n : ℕ) → n < 2 ^ 32 → (ls rest : List ℕ) → to_be_bytes w32 n ≡ ls ++ rest → (least_from 4 ls ≤ n) × (n ≤ greatest_from 4 ls)
big_within n h [] rest e = (omega arith, omega arith)
big_within n h (a ∷ []) rest e =
    let ea : n / 16777216 % 256 ≡ a = cc in
    (omega arith, omega arith)
big_within n h (a ∷ b ∷ []) rest e =
    let ea : n / 16777216 % 256 ≡ a = cc in
    let eb : n / 65536 % 256 ≡ b = cc in
    (omega arith, omega arith)
big_within n h (a ∷ b ∷ c ∷ []) rest e =
    let ea : n / 16777216 % 256 ≡ a = cc in
    let eb : n / 65536 % 256 ≡ b = cc in
    let ec : n / 256 % 256 ≡ c = cc in
    (omega arith, omega arith)
big_within n h (a ∷ b ∷ c ∷ d ∷ []) rest e =
    let ea : n / 16777216 % 256 ≡ a = cc in
    let eb : n / 65536 % 256 ≡ b = cc in
    let ec : n / 256 % 256 ≡ c = cc in
    let ed : n % 256 ≡ d = cc in
    (omega arith, omega arith)
big_within n h (a ∷ b ∷ c ∷ d ∷ x ∷ xs) rest e = cc

-- the octets of a number begin with these, if it lies between what these can spell
big_has : (n : ℕ) → (ls : List ℕ) → length ls ≤ 4 → AreOctets ls → least_from 4 ls ≤ n → n ≤ greatest_from 4 ls → (rest : List ℕ) × (to_be_bytes w32 n ≡ ls ++ rest)
big_has n [] l o p q = (to_be_bytes w32 n, refl)
big_has n (a ∷ []) l o p q =
    let ea : n / 16777216 % 256 ≡ a = omega arith in
    (_, ap (λ x. x ∷ (n / 65536 % 256) ∷ (n / 256 % 256) ∷ (n % 256) ∷ []) ea)
big_has n (a ∷ b ∷ []) l o p q =
    let ea : n / 16777216 % 256 ≡ a = omega arith in
    let eb : n / 65536 % 256 ≡ b = omega arith in
    (n / 256 % 256 ∷ (n % 256) ∷ [], rw (ea, eb) refl)
big_has n (a ∷ b ∷ c ∷ []) l o p q =
    let ea : n / 16777216 % 256 ≡ a = omega arith in
    let eb : n / 65536 % 256 ≡ b = omega arith in
    let ec : n / 256 % 256 ≡ c = omega arith in
    (n % 256 ∷ [], rw (ea, eb, ec) refl)
big_has n (a ∷ b ∷ c ∷ d ∷ []) l o p q =
    let ea : n / 16777216 % 256 ≡ a = omega arith in
    let eb : n / 65536 % 256 ≡ b = omega arith in
    let ec : n / 256 % 256 ≡ c = omega arith in
    let ed : n % 256 ≡ d = omega arith in
    ([], rw (ea, eb, ec, ed) refl)
big_has n (a ∷ b ∷ c ∷ d ∷ x ∷ xs) l o p q = absurd (omega arith)

-- the number of octets of a payload length
abbrev pub octet_count : Bool → ℕ
octet_count short = cond short 1 4

-- a number lies between what a front of its octets can spell
pub within : (short : Bool) (n : ℕ) → n < 2 ^ 32 → FitsForm short n → (ls rest : List ℕ) → payload_length_octets short n ≡ ls ++ rest
    → (least_from (octet_count short) ls ≤ n) × (n ≤ greatest_from (octet_count short) ls)
within true n h f [] rest e = (omega arith, omega arith)
within true n h f (a ∷ []) rest e = let ea : n ≡ a = cc in (omega arith, omega arith)
within true n h f (a ∷ b ∷ xs) rest e = cc
within false n h f ls rest e = big_within n h ls rest e

-- the octets of a number begin with what can spell it
pub has : (short : Bool) (n : ℕ) → (ls : List ℕ) → length ls ≤ octet_count short → AreOctets ls
    → least_from (octet_count short) ls ≤ n → n ≤ greatest_from (octet_count short) ls → (rest : List ℕ) × (payload_length_octets short n ≡ ls ++ rest)
has true n [] l o p q = (_, refl)
has true n (a ∷ []) l o p q = let ea : n ≡ a = omega arith in ([], ap (λ x. x ∷ []) ea)
has true n (a ∷ b ∷ xs) l o p q = absurd (omega arith)
has false n ls l o p q = big_has n ls l o p q

-- such a number fits its form
pub fits_form : (short : Bool) (n : ℕ) (ls : List ℕ) → length ls ≤ octet_count short → AreOctets ls → n ≤ greatest_from (octet_count short) ls → (FitsForm short n) × (n < 2 ^ 32)
fits_form true n [] l o q = (omega arith, omega arith)
fits_form true n (a ∷ []) l o q = (omega arith, omega arith)
fits_form true n (a ∷ b ∷ xs) l o q = absurd (omega arith)
fits_form false n [] l o q = (tt, omega arith)
fits_form false n (a ∷ []) l o q = (tt, omega arith)
fits_form false n (a ∷ b ∷ []) l o q = (tt, omega arith)
fits_form false n (a ∷ b ∷ c ∷ []) l o q = (tt, omega arith)
fits_form false n (a ∷ b ∷ c ∷ d ∷ []) l o q = (tt, omega arith)
fits_form false n (a ∷ b ∷ c ∷ d ∷ x ∷ xs) l o q = absurd (omega arith)

-- the least number lies below the greatest
pub least_below : (short : Bool) (ls : List ℕ) → length ls ≤ octet_count short → least_from (octet_count short) ls ≤ greatest_from (octet_count short) ls
least_below true [] l = omega arith
least_below true (a ∷ []) l = omega arith
least_below true (a ∷ b ∷ xs) l = absurd (omega arith)
least_below false [] l = omega arith
least_below false (a ∷ []) l = omega arith
least_below false (a ∷ b ∷ []) l = omega arith
least_below false (a ∷ b ∷ c ∷ []) l = omega arith
least_below false (a ∷ b ∷ c ∷ d ∷ []) l = omega arith
least_below false (a ∷ b ∷ c ∷ d ∷ x ∷ xs) l = absurd (omega arith)

-- the octets of a payload length
pub length_octets : (short : Bool) (n : ℕ) → FitsForm short n → (length (payload_length_octets short n) ≡ octet_count short) × AreOctets (payload_length_octets short n)
length_octets true n f = (refl, (f, tt))
length_octets false n f = (refl, (omega arith, (omega arith, (omega arith, (omega arith, tt)))))

whole_big : (n : ℕ) → n < 2 ^ 32 → (least_from 4 (payload_length_octets false n) ≡ n) × (greatest_from 4 (payload_length_octets false n) ≡ n)
whole_big n h = (omega arith, omega arith)

-- all octets of a payload length spell that one
pub whole_number : (short : Bool) (n : ℕ) → n < 2 ^ 32 → FitsForm short n
    → (least_from (octet_count short) (payload_length_octets short n) ≡ n) × (greatest_from (octet_count short) (payload_length_octets short n) ≡ n)
whole_number true n h f = (omega arith, omega arith)
whole_number false n h f = whole_big n h
