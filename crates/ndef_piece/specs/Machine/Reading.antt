-- A head that is read octet by octet.
use Rattle.std.specs.Prelude.{◌≡◌, ℕ, ◌<◌, List, [], ◌∷◌, ◌++◌, Some, None, ⊤, ◌↔◌}
use Rattle.ndef_piece.specs.declared.head.Head.{Head}
use Rattle.ndef_format.specs.declared.spot.Spot.{Spot}
use Rattle.ndef_piece.specs.declared.head_reader.Step.{Step}
use Rattle.ndef_piece.specs.declared.head_reader.Step.TheVariants as steps
use Rattle.ndef_format.specs.Positions.{IsOpen}
use Rattle.ndef_piece.specs.Heads.{IsWholeHead, IsViableHead}
use Rattle.ndef_format.specs.HeadReasons.{reason_for}

-- the spot of the piece, its octets so far, a refused one with them, and what was answered to the last
pub record Reading : Type 0 where
  pub spot : Spot
  pub octets : List ℕ
  pub answer : Step

-- The answer to the octet b after the octets xs, if a head is open:
-- a head that isn't whole yet, a whole one, or an octet after which no head is possible, with the lowest reason.
abbrev pub IsAnswer : Spot → List ℕ → ℕ → Step → Type 0
IsAnswer spot xs b steps.More = IsOpen spot (xs ++ b ∷ [])
IsAnswer spot xs b (steps.Head h) = IsWholeHead spot (xs ++ b ∷ []) h
IsAnswer spot xs b (steps.Refused r) = (¬ IsViableHead spot (xs ++ b ∷ [])) × (reason_for spot xs b ≡ Some r)

-- this answer is true of the octets so far
abbrev pub IsSound : Reading → Step → Type 0
IsSound reading steps.More = IsOpen reading.spot reading.octets
IsSound reading (steps.Head h) = IsWholeHead reading.spot reading.octets h
IsSound reading (steps.Refused r) = ¬ IsViableHead reading.spot reading.octets

-- a fact after a refusal
abbrev pub IfRefused : Step → Type 0 → Type 0
IfRefused (steps.Refused r) P = P
IfRefused _ P = ⊤

-- a fact of the head that was read
abbrev pub IfHead : Step → (Head → Type 0) → Type 0
IfHead (steps.Head h) P = P h
IfHead _ P = ⊤

-- ---- laws

-- Only one answer to an octet is right.
abbrev pub OneAnswer : Type 0
OneAnswer = (spot : Spot) (xs : List ℕ) (b : ℕ) (s t : Step) → IsAnswer spot xs b s → IsAnswer spot xs b t → s ≡ t

-- If a head is open, no condition holds of an octet exactly if some head continues with it.
abbrev pub ConditionsAreExact : Type 0
ConditionsAreExact = (spot : Spot) (xs : List ℕ) (b : ℕ) → b < 256 → IsOpen spot xs → (reason_for spot xs b ≡ None)
    ↔ IsViableHead spot (xs ++ b ∷ [])
