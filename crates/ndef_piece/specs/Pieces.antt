-- The pieces that may occur at a spot.
use Rattle.std.specs.Prelude.{◌≡◌, ℕ, Bool, List, [], ◌∷◌, ◌++◌, length, ◌↔◌}
use Rattle.ndef_format.specs.Records.{Piece, IsPiece, FitsForm, HeadFields, fields, body, octets, SpellsPiece}
use Rattle.ndef_piece.specs.declared.head.Head.{Head}
use Rattle.ndef_format.specs.declared.spot.Spot.{Spot}
use Rattle.ndef_piece.specs.Heads.{head, IsWholeHead, IsViableHead, IsLength}
use Rattle.ndef_format.specs.Positions.{MayOccur, IsOpen, IsConsistentAt}

-- ---- laws

-- A piece may occur at a spot exactly if its head may.
abbrev pub HeadsOfPieces : Type 0
HeadsOfPieces =
    (spot : Spot) (p : Piece) (short : Bool) → IsPiece p → FitsForm short (length p.payload)
    → IsConsistentAt spot p
    ↔ MayOccur spot (fields p short)

-- Each head that may occur is that of some piece, with any type, id and payload of its lengths.
abbrev pub PiecesOfHeads : Type 0
PiecesOfHeads =
    (spot : Spot) (f : HeadFields) (p : Piece) → IsPiece p → fields p f.short ≡ f → MayOccur spot f
    → IsConsistentAt spot p × SpellsPiece p f.short (octets f ++ body p)

-- If the bytes of a piece that may occur continue an open front with b, b is not refused.
-- If they are a whole head then, it is the head of the piece.
abbrev pub HeadsOfBytes : Type 0
HeadsOfBytes =
    (spot : Spot) (p : Piece) (short : Bool) (bytes xs rest : List ℕ) (b : ℕ)
    → SpellsPiece p short bytes
    → IsConsistentAt spot p
    → IsOpen spot xs → bytes ≡ (xs ++ b ∷ []) ++ rest
    → IsViableHead spot (xs ++ b ∷ [])
    × ((h : Head) → IsWholeHead spot (xs ++ b ∷ []) h → (h ≡ head (fields p short))
    × (rest ≡ body p))

-- The payload lengths of the heads that go on after some octets are those of the pieces whose heads
-- do.
abbrev pub LengthsOfPieces : Type 0
LengthsOfPieces = (spot : Spot) (xs : List ℕ) (n : ℕ) → IsLength spot xs n
    ↔ ((p : Piece) × (short : Bool) × (rest : List ℕ) × IsPiece p
    × FitsForm short (length p.payload) × IsConsistentAt spot p
    × (length p.payload ≡ n) × (octets (fields p short) ≡ xs ++ rest))
