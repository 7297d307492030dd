-- Why an octet is refused in the head of a piece.
use Rattle.std.specs.Prelude.{◌≡◌, ℕ, List, [], ◌∷◌, map}
use Rattle.ndef_format.specs.Reasons.{reason_number}
use Rattle.ndef_format.specs.declared.spot.Spot.{Spot}
use Rattle.ndef_format.specs.HeadReasons.{conditions}

-- ---- laws

-- The conditions are listed by the numbers of their reasons, 1 to 14.
abbrev pub ConditionsAreInOrder : Type 0
ConditionsAreInOrder = (spot : Spot) (xs : List ℕ) (b : ℕ)
    → map (λ c. reason_number c.0) (conditions spot xs b)
    ≡ 1 ∷ 2 ∷ 3 ∷ 4 ∷ 5 ∷ 6 ∷ 7 ∷ 8 ∷ 9 ∷ 10 ∷ 11 ∷ 12 ∷ 13 ∷ 14 ∷ []
