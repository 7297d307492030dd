-- The field of the next octet of a message: it follows from the octets before it.
use Rattle.std.specs.Prelude.{◌≡◌, ℕ, true, false, List, [], ◌∷◌, ◌++◌}
use Rattle.ndef_format.specs.Records.{Piece, Run}
use Rattle.ndef_format.specs.Limits.{LimitValues}
use Rattle.ndef_format.specs.Positions.{IsConsistentAt, Field, spot_after, AreBefore, IsAt}

-- -- the pieces before a field

-- NDEF 1.0, chunked payloads: the run whose last piece comes after these
abbrev pub ended_run : (begun : List Piece) → Piece → Run
ended_run [] p = record { initial = p; later = [] }
ended_run (q ∷ begun) p = record { initial = q; later = begun ++ p ∷ [] }

-- ---- laws

-- The octets before an octet determine its field, and the runs and the pieces before it.
abbrev pub OneField : Type 0
OneField = (limits : LimitValues) (bytes : List ℕ) (runs others : List Run) (begun opened : List Piece)
    (field other : Field)
    → IsAt limits bytes runs begun field → IsAt limits bytes others opened other → (runs ≡ others)
    × (begun ≡ opened)
    × (field ≡ other)

-- A piece that follows others goes on with the open run, and if its CF is clear it ends it.
abbrev pub PiecesGoOn : Type 0
PiecesGoOn = (limits : LimitValues) (runs : List Run) (begun : List Piece) (p : Piece)
    → AreBefore limits runs begun
    → IsConsistentAt (spot_after limits runs begun) p
    → (p.chunked ≡ true → AreBefore limits runs (begun ++ p ∷ []))
    × (p.chunked ≡ false → AreBefore limits (runs ++ ended_run begun p ∷ []) [])
