-- A whole piece at the front of some bytes.
use Rattle.std.specs.Prelude.{◌≡◌, ℕ, ◌<◌, ◌≤◌, Bool, List, ◌++◌, length, take, Some, None, if◌then◌else◌}
use Rattle.ndef_format.specs.Records.{HeadFields, Piece, SpellsPiece}
use Rattle.ndef_format.specs.HeadReasons.{is_set, tnf_number}
use Rattle.ndef_piece.specs.Heads.{IsWholeHead}
use Rattle.ndef_piece.specs.declared.head.Head.{Head}
use Rattle.ndef_format.specs.declared.spot.Spot.{Spot}
use Rattle.ndef_piece.specs.declared.whole.WholePiece.{WholePiece}

-- NDEF 1.0, record layout: the piece that a header octet and these parts make
abbrev pub piece_of : ℕ → (kind id payload : List ℕ) → Piece
piece_of header kind id payload = record {
  first = is_set 7 header;
  last = is_set 6 header;
  chunked = is_set 5 header;
  tnf = tnf_number header;
  kind = kind;
  id = if is_set 3 header then Some id else None;
  payload = payload;
}

-- NDEF 1.0, record layout: the piece that is shown by its parts
abbrev pub shown : WholePiece → Piece
shown w = piece_of w.header w.kind.now w.id.now w.payload.now

-- NDEF 1.0, record layout: the bytes are the octets of the piece, and then these
pub record IsSplit (p : Piece) (short : Bool) (rest bytes : List ℕ) : Type 0 where
  pub front : List ℕ
  pub spells : SpellsPiece p short front
  pub joined : bytes ≡ front ++ rest

-- NDEF 1.0, record layout: the bytes begin with the octets of a piece
pub record BeginWithPiece (bytes : List ℕ) : Type 0 where
  pub piece : Piece
  pub short : Bool
  pub rest : List ℕ
  pub split : IsSplit piece short rest bytes

-- NDEF 1.0, record layout: the fields that a header octet and these lengths give
abbrev pub fields_of : ℕ → (kind id payload : ℕ) → HeadFields
fields_of header kind id payload = record {
  first = is_set 7 header;
  last = is_set 6 header;
  chunked = is_set 5 header;
  short = is_set 4 header;
  tnf = tnf_number header;
  kind_length = kind;
  payload_length = payload;
  id_length = if is_set 3 header then Some id else None;
}

-- NDEF 1.0, record layout: the bytes begin with a head of `count` octets that may occur at the
-- spot, read as h
pub record BeginWithHead (spot : Spot) (bytes : List ℕ) (h : Head) (count : ℕ) : Type 0 where
  pub some : 0 < count
  pub within : count ≤ length bytes
  pub whole : IsWholeHead spot (take count bytes) h
