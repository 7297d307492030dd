-- The contents of an array after a call that writes to it.
use Rattle.std.specs.Prelude.{◌≡◌, ℕ, ◌+◌, ◌<◌, ◌≤◌, ⊤, List, [], ◌∷◌, ◌++◌, length, drop}
use Rattle.ndef_c.specs.declared.status.TheConstants.{OK, BUFFER_TOO_SMALL}

-- these are at the front of the array, and after them it is as it was
abbrev pub set_over : {T : Type 0} → List T → List T → List T
set_over reported before = reported ++ drop (length reported) before

-- `many` elements, of which this holds, are written if the array is large enough, else it is unchanged;
-- their number is given
pub record GivesMany {T : Type 0} (holds : List T
    → Type 0) (many : ℕ) (before after : List T) (count status : ℕ)
    : Type 0 where
  pub count_is : count ≡ many
  pub fits : many ≤ length before → (status ≡ OK) × (reported : List T) × holds reported
      × (length reported ≡ many)
      × (after ≡ set_over reported before)
  pub too_small : length before < many → (status ≡ BUFFER_TOO_SMALL) × (after ≡ before)

-- this holds of each of them and its index, counted from a number
abbrev pub EachAt : {T : Type 0} → (ℕ → T → Type 0) → ℕ → List T → Type 0
EachAt P index [] = ⊤
EachAt P index (x ∷ xs) = P index x × EachAt P (index + 1) xs
