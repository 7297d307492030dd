-- The pieces that may come next in a message within the limits.
use Rattle.std.specs.Prelude.{◌≡◌, Bool, true, false, List, [], ◌∷◌, ◌++◌, ◌↔◌}
use Rattle.ndef_format.specs.Records.{Piece, Run}
use Rattle.ndef_format.specs.Messages.{Item, all_pieces, IsMessage}
use Rattle.ndef_format.specs.Limits.{LimitValues, AreInRange, IsWithin}
use Rattle.ndef_format.specs.Positions.{IsConsistentAt, spot_after}

-- NDEF 1.0, messages: these are the pieces of a message within the limits
abbrev pub AreMessage : LimitValues → List Piece → Type 0
AreMessage limits ps = (runs : List Run) × (items : List Item) × (ps ≡ all_pieces runs)
    × IsMessage limits.profile runs items × IsWithin limits runs

-- NDEF 1.0, messages: these pieces, and then some more or none, are those of such a message
abbrev pub BeginMessage : LimitValues → List Piece → Type 0
BeginMessage limits ps = (more : List Piece) × AreMessage limits (ps ++ more)

-- the pieces are those of complete runs and of an open one, and the spot after them allows exactly
-- the pieces that may come next
pub record IsPosition (limits : LimitValues) (ps : List Piece) : Type 0 where
  pub runs : List Run
  -- the pieces of the open run, none where no run is open
  pub begun : List Piece
  pub over : Bool
  pub pieces_are : ps ≡ all_pieces runs ++ begun
  pub whole : (over ≡ true) ↔ AreMessage limits ps
  pub next : (p : Piece) → BeginMessage limits (ps ++ p ∷ [])
      ↔ ((over ≡ false) × IsConsistentAt (spot_after limits runs begun) p)

-- ---- laws

-- Wherever a message within the limits may be cut between pieces there is a spot,
-- and the pieces that may occur at it are those with which some message within the limits goes on.
abbrev pub FrontsHaveSpots : Type 0
FrontsHaveSpots =
    (limits : LimitValues) (ps : List Piece) → AreInRange limits → BeginMessage limits ps
    → IsPosition limits ps
