-- What has come of the piece at the front of some bytes, and of each of those after it.
use Rattle.std.specs.Prelude.{◌≡◌, ℕ, zero, suc, ◌+◌, ◌-◌, ◌<◌, ◌≤◌, Bool, true, false, List, [], ◌∷◌, ◌++◌, length, take, drop, slice_index, if◌then◌else◌}
use Rattle.std.specs.Int.{w32, from_be_bytes}
use Rattle.ndef_format.specs.Records.{AreOctets, Piece}
use Rattle.ndef_format.specs.HeadReasons.{is_set, width}
use Rattle.ndef_piece.specs.declared.front.PieceFront.{PieceFront}
use Rattle.ndef_piece.specs.Whole.{BeginWithPiece, IsSplit, piece_of}

-- NDEF 1.0, IL: the number of octets of ID_LENGTH
abbrev pub id_length_width : ℕ → ℕ
id_length_width header = if is_set 3 header then 1 else 0

-- NDEF 1.0, ID_LENGTH: how long the id is, by the octets after the first two
abbrev pub id_given : (header : ℕ) (tail : List ℕ) → ℕ
id_given header tail = if is_set 3 header then slice_index tail (width header) else 0

-- NDEF 1.0, record layout: the number of octets between TYPE_LENGTH and TYPE
abbrev pub lengths_width : ℕ → ℕ
lengths_width header = width header + id_length_width header

-- NDEF 1.0, record layout: what follows the head of a piece, of which these are the octets after the first two
abbrev pub body_given : (header : ℕ) (tail : List ℕ) → List ℕ
body_given header tail = drop (lengths_width header) tail

-- NDEF 1.0, record layout: the octets of its payload that have come
abbrev pub content_given : (header kind_length : ℕ) (tail : List ℕ) → List ℕ
content_given header kind_length tail =
    drop (kind_length + id_given header tail) (body_given header tail)

-- NDEF 1.0, PAYLOAD_LENGTH: those of its octets that have come, of a piece that begins with these
abbrev pub payload_length_come : List ℕ → List ℕ
payload_length_come s = take (width (slice_index s 0)) (drop 2 s)

-- NDEF 1.0, ID_LENGTH: its octet, if it has come
abbrev pub id_length_come : List ℕ → List ℕ
id_length_come s =
    take (id_length_width (slice_index s 0)) (drop (width (slice_index s 0)) (drop 2 s))

-- NDEF 1.0, TYPE: its octets that have come, after the lengths
abbrev pub kind_come : List ℕ → List ℕ
kind_come s = take (slice_index s 1) (body_given (slice_index s 0) (drop 2 s))

-- NDEF 1.0, ID: its octets that have come, after TYPE
abbrev pub id_come : List ℕ → List ℕ
id_come s =
    take (id_given (slice_index s 0) (drop 2 s)) (drop (slice_index s 1) (body_given (slice_index s 0) (drop 2 s)))

-- NDEF 1.0, PAYLOAD: its octets that have come, after ID
abbrev pub content_come : List ℕ → List ℕ
content_come s = content_given (slice_index s 0) (slice_index s 1) (drop 2 s)

-- ---- all of them

-- NDEF 1.0, PAYLOAD_LENGTH: after the header and TYPE_LENGTH, one octet with SR, else four
abbrev pub payload_length_at : (short : Bool) → List ℕ → ℕ
payload_length_at true bytes = slice_index bytes 2
payload_length_at false bytes = from_be_bytes w32 (take 4 (drop 2 bytes))

-- NDEF 1.0, record layout: the number of octets of the piece at the front
unfoldable pub size_come : List ℕ → ℕ
size_come s =
    2 + lengths_width (slice_index s 0) + (slice_index s 1 + (id_given (slice_index s 0) (drop 2 s)
    + payload_length_at (is_set 4 (slice_index s 0)) s))

-- NDEF 1.0, messages: what has come of each piece, after that number of octets; the last may not be whole
abbrev pub fronts_from : ℕ → List ℕ → List (List ℕ)
fronts_from skip [] = []
fronts_from zero (b ∷ s) = take (size_come (b ∷ s)) (b ∷ s) ∷ fronts_from (size_come (b ∷ s) - 1) s
fronts_from (suc skip) (b ∷ s) = fronts_from skip s

-- the same of all of them
abbrev pub fronts : List ℕ → List (List ℕ)
fronts = fronts_from 0

-- ---- the first of them

-- the piece that is shown by its parts
abbrev pub come : PieceFront → Piece
come f = piece_of f.header f.kind.now f.id.now f.payload.now

-- NDEF 1.0, record layout: the parts are those that have come
pub record HasParts (s : List ℕ) (f : PieceFront) : Type 0 where
  pub kind : f.kind.now ≡ kind_come s
  pub id : f.id.now ≡ id_come s
  pub payload : f.payload.now ≡ content_come s

-- NDEF 1.0, record layout: all of the bytes have come of it, and it isn't whole
pub record IsBegun (s rest : List ℕ) : Type 0 where
  pub none : rest ≡ []
  pub ended : ¬ BeginWithPiece s

-- NDEF 1.0, record layout: what has come of the piece at the front of the bytes, and what follows it
pub record IsFrontOf (s rest : List ℕ) (f : PieceFront) : Type 0 where
  pub joined : s ≡ f.octets.now ++ rest
  pub header : f.header ≡ slice_index s 0
  pub first : 0 < length s → fronts s ≡ f.octets.now ∷ fronts rest
  pub parts : HasParts f.octets.now f
  pub whole : f.whole ≡ true → IsSplit (come f) (is_set 4 f.header) rest s
  pub begun : f.whole ≡ false → IsBegun s rest

-- ---- laws

-- Wherever as many octets have come as the lengths of a piece say, they begin with one.
abbrev pub PiecesBegin : Type 0
PiecesBegin = (s : List ℕ) → AreOctets s → size_come s ≤ length s → BeginWithPiece s
