-- An octet and the bytes after it, stepped one after another: whether they are a payload.
use Rattle.std.proofs.Common.{◌≡◌, ℕ, ◌+◌, ◌-◌, ◌≤◌, List, [], ◌∷◌, ◌++◌, take, drop, sym, subst, arith, inl, inr, length, length-drop, append-nil}
use Rattle.std.specs.Prelude.{◌↔◌}
use Rattle.std.proofs.lemmas.Bool.{cases_lt}
use Rattle.std.proofs.lemmas.List.{take-append-drop, take_all, nil_from_length}
use Rattle.ndef_lang.specs.Language.{Continues, StepsAll}

-- what may follow the octet is what makes a payload with it
pub after_octet : (set start next : List ℕ → Type 0) (octet : ℕ) (r : List ℕ) → Continues set start [] → Continues start next (octet ∷ []) → next r ↔ set (octet ∷ r)
after_octet set start next octet r f g = (λ h. (f (octet ∷ r)).0 ((g r).0 h), λ h. (g r).1 ((f (octet ∷ r)).1 h))

ended : (future : List ℕ → Type 0) (bytes r : List ℕ) (count : ℕ) → count ≡ length bytes → length r ≤ length bytes - count → future (take count bytes ++ r) → future bytes
ended future bytes r count e l h =
    let none : r ≡ [] = nil_from_length r (omega (arith, e, l)) in
    let all : take count bytes ≡ bytes = take_all count bytes (omega (arith, e)) in
    subst future (append-nil bytes) (rw (none, all) at h)

-- all of them were taken
pub all_stepped : (old new : List ℕ → Type 0) (bytes : List ℕ) (count : ℕ) → StepsAll old new bytes (length bytes) (length bytes) count → count ≡ length bytes → old bytes
all_stepped old new bytes count s e = ended old bytes s.fits.rest count e s.fits.most s.fits.passed

-- or they don't follow
pub stepped_all : (old new : List ℕ → Type 0) (bytes : List ℕ) (count : ℕ) → StepsAll old new bytes (length bytes) (length bytes) count → old bytes → count ≡ length bytes
stepped_all old new bytes count s h = elim (cases_lt count (length bytes)) [
  | inl l ↦ (
      let n = length-drop (count + 1) bytes in
      absurd (s.refused l (record {
        rest = drop (count + 1) bytes;
        passed = (s.stepped (drop (count + 1) bytes)).1 (subst old (sym (take-append-drop (count + 1) bytes)) h);
        least = omega (arith, n);
        most = omega (arith, n);
      })))
  | inr l ↦ (let w = s.within in omega (arith, l, w))
]
