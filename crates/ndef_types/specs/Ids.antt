-- The records of a message, found by their ids (NDEF 1.0, ID).
use Rattle.std.specs.Prelude.{◌≡◌, ℕ, List, [], take, Option, Some, None, ◌⊎◌}
use Rattle.std.specs.Borrow.{Bor}
use Rattle.std.specs.BTreeMap.{BTreeMap, get_by}
use Rattle.std.specs.Cmp.Lexicographic.{slice_cmp}
use Rattle.std.specs.Ordering.{nat_cmp}
use Rattle.ndef_format.specs.Messages.{Item}
use Rattle.ndef_types.specs.Contents.{Lack}
use Rattle.ndef_types.specs.Links.{HasId, IsIndexOf}

-- NDEF 1.0, ID: the index that is kept for an id
abbrev pub index_at : BTreeMap (Bor (List ℕ)) ℕ → List ℕ → Option ℕ
index_at ids id = get_by (λ k. slice_cmp nat_cmp id k.now) ids

-- NDEF 1.0, ID: the index of the first record with each id is kept
abbrev pub FindsFirsts : List Item → BTreeMap (Bor (List ℕ)) ℕ → Type 0
FindsFirsts items ids = (id : List ℕ) → IsIndexOf items id (index_at ids id)

-- NDEF 1.0, ID: it is the first record with the id, or none of the first n has it
abbrev pub IsFound : List Item → ℕ → List ℕ → Option ℕ → Type 0
IsFound items n id None = (id ≡ []) ⊎ Lack (HasId id) (take n items)
IsFound items n id (Some k) = IsIndexOf items id (Some k)

-- NDEF 1.0, ID: the same of the first n records
abbrev pub FindsSome : List Item → ℕ → BTreeMap (Bor (List ℕ)) ℕ → Type 0
FindsSome items n ids = (id : List ℕ) → IsFound items n id (index_at ids id)
