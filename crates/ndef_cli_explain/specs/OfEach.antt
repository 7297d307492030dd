-- The results for each of some records, one after another.
use Rattle.std.specs.Prelude.{◌≡◌, ℕ, ◌+◌, List, [], ◌∷◌, ◌++◌}
use Rattle.ndef_format.specs.Records.{Run}

-- NDEF 1.0, messages: the results for records, of which the first has this number
abbrev pub AreOfEach : {X : Type 0} → (IsOf : (number : ℕ) → Run → List X → Type 0) → (number : ℕ) → List Run → List X
    → Type 0
AreOfEach IsOf number [] all = all ≡ []
AreOfEach {X} IsOf number (run ∷ runs) all =
    (one : List X) × (more : List X) × IsOf number run one × AreOfEach IsOf (number + 1) runs more × (all ≡ one ++ more)

-- the result for them is put after what came before
abbrev pub Puts : {X S : Type 0} → (S → List X → S) → (List X → Type 0) → (old new : S) → Type 0
Puts {X} put Are old new = (all : List X) × Are all × (new ≡ put old all)
