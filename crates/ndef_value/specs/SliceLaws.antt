-- The part of a list that a slice's pattern or range leaves, and its octets.
use Rattle.std.proofs.Common.{◌≡◌, ℕ, zero, suc, ◌-◌, ◌<◌, ◌≤◌, List, [], ◌∷◌, length, get_or, take, drop, sym, subst, ap, arith, length-drop, Fits, w8}
use Rattle.std.proofs.lemmas.List.{take_all}
use Rattle.ndef_format.specs.Records.{AreOctets}

-- a list is octets where each of its elements is one
pub each_octet : (s : List ℕ) → ((k : ℕ) → Fits w8 (get_or s k 0)) → AreOctets s
each_octet [] h = tt
each_octet (x ∷ s) h = (omega (arith, h 0), each_octet s (λ k. h (suc k)))

pub octet_at : (s : List ℕ) (k : ℕ) → AreOctets s → get_or s k 0 < 256
octet_at [] k h = omega arith
octet_at (x ∷ s) zero h = h.0
octet_at (x ∷ s) (suc k) h = octet_at s k h.1

pub octets_drop : (n : ℕ) (s : List ℕ) → AreOctets s → AreOctets (drop n s)
octets_drop zero s h = h
octets_drop (suc n) [] h = tt
octets_drop (suc n) (x ∷ s) h = octets_drop n s h.1

-- what a pattern leaves after n elements, and what a range from n on is
abbrev pub rest_from : ℕ → List ℕ → List ℕ
rest_from n s = take (length s - n) (drop n s)

pub after_drop : (n : ℕ) (s : List ℕ) → rest_from n s ≡ drop n s
after_drop n s = take_all (length s - n) (drop n s) (omega (arith, length-drop n s))

pub octets_after : (n : ℕ) (s : List ℕ) → AreOctets s → AreOctets (rest_from n s)
octets_after n s h = subst AreOctets (sym (after_drop n s)) (octets_drop n s h)

-- the first elements and the rest
pub cut_one : (s : List ℕ) → 1 ≤ length s → get_or s 0 0 ∷ rest_from 1 s ≡ s
cut_one [] h = absurd (omega arith)
cut_one (x ∷ s) h = ap (λ t. x ∷ t) (after_drop 1 (x ∷ s))

pub cut_two : (s : List ℕ) → 2 ≤ length s → get_or s 0 0 ∷ get_or s 1 0 ∷ rest_from 2 s ≡ s
cut_two [] h = absurd (omega arith)
cut_two (x ∷ []) h = absurd (omega arith)
cut_two (x ∷ y ∷ s) h = ap (λ t. x ∷ y ∷ t) (after_drop 2 (x ∷ y ∷ s))
