-- The units of characters, one after another, and their octets.
use Rattle.std.proofs.Common.{◌≡◌, ℕ, zero, suc, ◌+◌, ◌/◌, ◌%◌, ◌<◌, false, List, [], ◌∷◌, ◌++◌, length, get_or, take, sym, ◌∙◌, ap, inl, inr, arith, lt-ltb, le-ltb, append_assoc}
use Rattle.std.proofs.lemmas.Bool.{cases_lt}
use Rattle.std.proofs.lemmas.List.{take_more, flat_map_more}
use Rattle.std.proofs.lemmas.Grind.{flat_map-append}
use Rattle.std.specs.Int.{w16, to_be_bytes}
use Rattle.std.specs.Char.Escape.{encode_utf16}
use Rattle.ndef_format.specs.Texts.{units_of, spelled, unit_octets}

pub same_unit : (u v : ℕ) → u / 256 ≡ v / 256 → u % 256 ≡ v % 256 → u ≡ v
same_unit u v p q = omega arith

big_unit_octets : (u : ℕ) → u < 65536 → to_be_bytes w16 u ≡ (u / 256) ∷ (u % 256) ∷ []
big_unit_octets u h = let x : u / 256 % 256 ≡ u / 256 = omega arith in λ i. x i ∷ (u % 256) ∷ []

-- one unit more of some
pub spelled_more : (us : List ℕ) (u i : ℕ) (front octets : List ℕ) → i < length us → u ≡ get_or us i 0 → u < 65536
    → octets ≡ front ++ spelled false (take i us)
    → octets ++ to_be_bytes w16 u ≡ front ++ spelled false (take (i + 1) us)
spelled_more us u i front octets l e small h =
    (λ k. h k ++ big_unit_octets u small k)
    ∙ append_assoc front (spelled false (take i us)) ((u / 256) ∷ (u % 256) ∷ [])
    ∙ ap (λ t. front ++ t) (ap (λ v. spelled false (take i us) ++ (v / 256) ∷ (v % 256) ∷ []) e
    ∙ sym (flat_map-append (unit_octets false) (take i us) (get_or us i 0 ∷ []))
    ∙ ap (spelled false) (sym (take_more us i 0 l)))

-- one character more of some
pub text_more : (cs : List ℕ) (c : ℕ) (front octets : List ℕ) → octets ≡ front ++ spelled false (units_of cs)
    → octets ++ spelled false (encode_utf16 c) ≡ front ++ spelled false (units_of (cs ++ c ∷ []))
text_more cs c front octets h =
    (λ k. h k ++ spelled false (encode_utf16 c)) ∙ append_assoc front (spelled false (units_of cs))
    (spelled false (encode_utf16 c))
    ∙ ap (λ t. front ++ t) (sym (flat_map-append (unit_octets false) (units_of cs) (encode_utf16 c))
    ∙ ap (spelled false) (flat_map_more encode_utf16 [] cs c))

pub small_units : (c : ℕ) → c < 1114112 → (i : ℕ) → get_or (encode_utf16 c) i 0 < 65536
small_units c l i = elim (cases_lt c 0x10000) [
  | inl a ↦ rw (lt-ltb c 0x10000 a) (alone i a)
  | inr a ↦ rw (le-ltb c 0x10000 a)
      (paired i _ _ (omega arith) (omega arith))
]
  where
    alone : (i : ℕ) → c < 0x10000 → get_or (c ∷ []) i 0 < 65536
    alone zero a = omega arith
    alone (suc i) a = omega arith

    paired : (i u v : ℕ) → u < 65536 → v < 65536 → get_or (u ∷ v ∷ []) i 0 < 65536
    paired zero u v a b = a
    paired (suc zero) u v a b = b
    paired (suc (suc i)) u v a b = omega arith
