-- The properties of whole pieces from their bytes: in terms of the values of views, items and pieces.
use Rattle.std.specs.Prelude.{◌≡◌, ℕ, zero, suc, ◌+◌, ◌-◌, ◌^◌, ◌<◌, ◌≤◌, Bool, true, false, List, [], ◌∷◌, length, take, drop, slice_index, Option, Some, None, unwrap_or, if◌then◌else◌}
use Rattle.std.specs.Int.{w32, from_be_bytes}
use Rattle.std.specs.List.{AllByRecursion}
use Rattle.ndef_format.specs.Records.{HeadFields, Piece, Run, pieces, Follow}
use Rattle.ndef_format.specs.Messages.{SpellsPieces, all_pieces, run_record, payload_of, IsShaped}
use Rattle.ndef_format.specs.declared.profile.Profile.{Profile}
use Rattle.ndef_format.specs.HeadReasons.{is_set, tnf_number}
use Rattle.ndef_piece.specs.Header.{size}
use Rattle.ndef_message.specs.Machine.Points.{piece}
use Rattle.ndef_message.specs.Views.{Viewed}

-- ---- the pieces that bytes spell, by their octets

-- NDEF 1.0, PAYLOAD_LENGTH: after the header and TYPE_LENGTH, one octet with SR, else four
abbrev pub payload_length_at : (short : Bool) → List ℕ → ℕ
payload_length_at true bytes = slice_index bytes 2
payload_length_at false bytes = from_be_bytes w32 (take 4 (drop 2 bytes))

-- NDEF 1.0, ID_LENGTH: after it, with IL
abbrev pub id_length_at : (there short : Bool) → List ℕ → Option ℕ
id_length_at false short bytes = None
id_length_at true true bytes = Some (slice_index bytes 3)
id_length_at true false bytes = Some (slice_index bytes 6)

-- NDEF 1.0, record layout: the head at the front, which begins with this header octet
abbrev pub fields_with : ℕ → List ℕ → HeadFields
fields_with header bytes = record {
  first = is_set 7 header;
  last = is_set 6 header;
  chunked = is_set 5 header;
  short = is_set 4 header;
  tnf = tnf_number header;
  kind_length = slice_index bytes 1;
  payload_length = payload_length_at (is_set 4 header) bytes;
  id_length = id_length_at (is_set 3 header) (is_set 4 header) bytes;
}

-- NDEF 1.0, record layout: the piece with this head, and this after the head
abbrev pub piece_with : HeadFields → List ℕ → Piece
piece_with f body =
    piece f (take f.kind_length body) (take (unwrap_or f.id_length 0) (drop f.kind_length body))
    (take f.payload_length (drop (unwrap_or f.id_length 0) (drop f.kind_length body)))

-- NDEF 1.0, record layout: the piece at the front
unfoldable pub piece_at : List ℕ → Piece
piece_at bytes = piece_with (fields_with (slice_index bytes 0) bytes) (drop (size (slice_index bytes 0)) bytes)

-- NDEF 1.0, record layout: the octets after the head
abbrev pub body_size : HeadFields → ℕ
body_size f = f.kind_length + (unwrap_or f.id_length 0 + f.payload_length)

-- NDEF 1.0, record layout: the octets of the piece at the front
unfoldable pub size_at : List ℕ → ℕ
size_at bytes = size (slice_index bytes 0) + body_size (fields_with (slice_index bytes 0) bytes)

-- the pieces of some bytes, after that number of octets
abbrev pub pieces_from : ℕ → List ℕ → List Piece
pieces_from skip [] = []
pieces_from zero (b ∷ bytes) = piece_at (b ∷ bytes) ∷ pieces_from (size_at (b ∷ bytes) - 1) bytes
pieces_from (suc skip) (b ∷ bytes) = pieces_from skip bytes

-- the pieces of some bytes
abbrev pub pieces_of : List ℕ → List Piece
pieces_of = pieces_from 0

-- ---- runs

-- NDEF 1.0, CF: a piece before these runs, the first of which it begins if it is chunked
abbrev pub begin_run : Piece → List Run → List Run
begin_run p [] = record { initial = p; later = [] } ∷ []
begin_run p (r ∷ rs) =
    if p.chunked then record { initial = p; later = pieces r } ∷ rs else record { initial = p; later = [] } ∷ r ∷ rs

-- NDEF 1.0, chunked payloads: the runs of some pieces
abbrev pub runs_of : List Piece → List Run
runs_of [] = []
runs_of (p ∷ ps) = begin_run p (runs_of ps)

-- NDEF 1.0, chunked payloads: the run that the bytes are
abbrev pub run_of : List ℕ → Run
run_of bytes = record { initial = piece_at bytes; later = pieces_of (drop (size_at bytes) bytes) }

-- the view of the message that the bytes are, read with this profile
abbrev pub viewed_of : List ℕ → Profile → Viewed
viewed_of bytes profile = record { taken = length bytes; runs = runs_of (pieces_of bytes); profile = profile }

-- ---- what is known of bytes that were checked

-- the bytes are those of whole pieces
abbrev pub ArePieces : List ℕ → Type 0
ArePieces bytes = (ps : List Piece) × SpellsPieces ps bytes

-- NDEF 1.0, chunked payloads: a run of a message, with as long a payload as one piece can have
pub record IsSeenRecord (r : Run) : Type 0 where
  pub follow : Follow r.initial.chunked r.later
  pub shaped : IsShaped (run_record r)
  pub small : length (payload_of (pieces r)) < 2 ^ 32

-- the bytes are those of one run, with so long a payload
pub record AreRun (bytes : List ℕ) (size : ℕ) : Type 0 where
  pub run : Run
  pub spelled : SpellsPieces (pieces run) bytes
  pub read : IsSeenRecord run
  pub size_is : size ≡ length (payload_of (pieces run))

-- the bytes are those of whole runs
pub record AreRuns (bytes : List ℕ) : Type 0 where
  pub runs : List Run
  pub spelled : SpellsPieces (all_pieces runs) bytes
  pub read : AllByRecursion IsSeenRecord runs

-- the bytes are those of a message of `records` records
pub record AreChecked (bytes : List ℕ) (records : ℕ) : Type 0 where
  pub whole : AreRuns bytes
  pub records_are : records ≡ length whole.runs
  pub some : 1 ≤ records
  pub few : records ≤ 65535
