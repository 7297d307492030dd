-- The places of the payloads of the pieces of a record.
use Rattle.std.specs.Prelude.{◌≡◌, ℕ, ◌+◌, ◌⊎◌, ⊤, Bool, true, false, List, [], ◌∷◌, length, drop, Option, Some, None}
use Rattle.ndef_format.specs.Records.{Piece, Run, pieces}
use Rattle.ndef_piece.specs.Whole.{BeginWithPiece, IsSplit}
use Rattle.ndef_c.specs.Arrays.{GivesMany}
use Rattle.ndef_c.specs.Walks.{BeginsWithRun, Lies}
use Rattle.ndef_c.specs.declared.part.NdefPart.{NdefPart}
use Rattle.ndef_c.specs.declared.chunks.Pieces.{Pieces}

-- NDEF 1.0, record layout: the piece begins at the place, and its payload, the last of its fields,
-- lies there
pub record IsPieceAt (bytes : List ℕ) (at : ℕ) (piece : Piece) (part : NdefPart) : Type 0 where
  pub short : Bool
  pub split : IsSplit piece short (drop (part.at + part.length) bytes) (drop at bytes)
  pub lies : Lies bytes part.at part.length piece.payload

-- NDEF 1.0, chunked payloads: the pieces begin at the place, one after another, and their payloads
-- lie there
abbrev pub ArePiecesAt : List ℕ → ℕ → List Piece → List NdefPart → Type 0
ArePiecesAt bytes at [] [] = ⊤
ArePiecesAt bytes at (p ∷ ps) (q ∷ qs) =
    IsPieceAt bytes at p q × ArePiecesAt bytes (q.at + q.length) ps qs
ArePiecesAt bytes at [] (q ∷ qs) = ⊥
ArePiecesAt bytes at (p ∷ ps) [] = ⊥

-- NDEF 1.0, chunked payloads: where the payload of each piece of the record at the place lies is
-- given
pub record GivesPieces (bytes : List ℕ) (at : ℕ) (before after : List NdefPart) (count status : ℕ) : Type 0 where
  pub run : Run
  pub rest : List ℕ
  pub begins : BeginsWithRun run rest (drop at bytes)
  pub gives : GivesMany (ArePiecesAt bytes at (pieces run)) (length (pieces run)) before after count status

-- ---- one piece after another

-- NDEF 1.0, chunked payloads: no more pieces come: none follows, or none is there
abbrev pub IsLast : Pieces → Type 0
IsLast p = (p.follows ≡ false) ⊎ ¬ BeginWithPiece (drop p.at p.bytes.now)

-- NDEF 1.0, CF: the piece at the place comes, and then, if it is chunked, the one where it ends
pub record StepsOver (p : Pieces) (part : NdefPart) (after : Pieces) : Type 0 where
  pub follows : p.follows ≡ true
  pub piece : Piece
  pub is : IsPieceAt p.bytes.now p.at piece part
  pub same : after.bytes.now ≡ p.bytes.now
  pub next : after.at ≡ part.at + part.length
  pub chunked : after.follows ≡ piece.chunked

-- the result of a step over pieces
abbrev pub StepsOn : Pieces → Option NdefPart → Pieces → Type 0
StepsOn p None after = IsLast p
StepsOn p (Some part) after = StepsOver p part after
