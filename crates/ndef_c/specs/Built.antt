-- A message that is built in a buffer, record after record.
use Rattle.std.specs.Prelude.{◌≡◌, ℕ, ◌+◌, ◌-◌, ◌<◌, ◌≤◌, ◌==◌, ◌⊎◌, Bool, true, false, List, [], ◌++◌, length, take, drop, slice_index, slice_set}
use Rattle.ndef_format.specs.Messages.{Item}
use Rattle.ndef_format.specs.Records.{Piece}
use Rattle.ndef_piece.specs.Whole.{IsSplit}
use Rattle.ndef_c.specs.Writes.{LastBegins, MayBeWritten, form_of, record_octets, size_of}
use Rattle.ndef_c.specs.declared.status.TheConstants.{OK, BUFFER_TOO_SMALL}
use Rattle.ndef_c.specs.declared.building.NdefMessageBuilder.{NdefMessageBuilder}
use Rattle.ndef_c.specs.declared.writing.NdefWriting.{NdefWriting}

-- a buffer, and the state of the message with which it begins
pub record Holding : Type 0 where
  pub buffer : List ℕ
  pub builder : NdefMessageBuilder

abbrev pub held : List ℕ → NdefMessageBuilder → Holding
held buffer builder = record { buffer = buffer; builder = builder }

-- no record is there yet
pub record IsUnbuilt (builder : NdefMessageBuilder) : Type 0 where
  pub length_is : builder.length ≡ 0
  pub last_at : builder.last_at ≡ 0
  pub records : builder.records ≡ 0

-- NDEF 1.0, ME: the bytes end with a piece that ends a message, and it begins at the place
pub record EndsWithPiece (bytes : List ℕ) (at : ℕ) : Type 0 where
  pub piece : Piece
  pub short : Bool
  pub split : IsSplit piece short [] (drop at bytes)
  pub last : piece.last ≡ true
  pub whole : piece.chunked ≡ false

-- the message lies in the buffer, and one more record can be counted
pub record IsBuilt (h : Holding) : Type 0 where
  pub within : h.builder.length ≤ length h.buffer
  pub ends : EndsWithPiece (take h.builder.length h.buffer) h.builder.last_at
  pub few : h.builder.records < 4294967295

-- a record can be appended
abbrev pub MayBeGrown : Holding → Type 0
MayBeGrown h = IsUnbuilt h.builder ⊎ IsBuilt h

-- no flag but that of the long form is set, and it is a record
pub record MayBeAppended (how : NdefWriting) (m : Item) : Type 0 where
  pub flags : (how.flags ≡ 0) ⊎ (how.flags ≡ 4)
  pub written : MayBeWritten how m

-- NDEF 1.0, ME: the message that is there, the bit that ends it taken from its last piece
abbrev pub reopened : Holding → List ℕ
reopened h =
    let bytes = take h.builder.length h.buffer in
    slice_set bytes h.builder.last_at (slice_index bytes h.builder.last_at - 64)

-- NDEF 1.0, MB and ME: the octets of a record that is the last of its message, and its first where
-- none was there
abbrev pub appended_octets : (first : Bool) → NdefWriting → Item → List ℕ
appended_octets first how m = record_octets (form_of how) first true (size_of how) m

-- NDEF 1.0, chunked payloads: where the last piece of such a record begins in its octets
abbrev pub AppendedBegins : (first : Bool) → NdefWriting → Item → ℕ → Type 0
AppendedBegins first how m at = LastBegins (form_of how) first true (size_of how) m at

-- no record was there
abbrev pub is_first_of : NdefMessageBuilder → Bool
is_first_of builder = builder.length == 0

-- these octets and one record are more, and the last piece begins there
pub record IsGrown (octets : List ℕ) (begins : ℕ → Type 0) (before after : NdefMessageBuilder) : Type 0 where
  pub length_is : after.length ≡ before.length + length octets
  pub records : after.records ≡ before.records + 1
  pub at : ℕ
  pub begins_at : begins at
  pub last_at : after.last_at ≡ before.length + at

-- the octets are written after the message if the buffer is large enough, else nothing changes; the length of
-- both is given
pub record GivesAppended (octets : List ℕ) (begins : ℕ
    → Type 0) (before after : Holding) (count status : ℕ)
    : Type 0 where
  pub count_is : count ≡ before.builder.length + length octets
  pub fits : count ≤ length before.buffer → (status ≡ OK)
      × (after.buffer ≡ reopened before ++ (octets ++ drop count before.buffer))
      × IsGrown octets begins before.builder after.builder
  pub too_small : length before.buffer < count → (status ≡ BUFFER_TOO_SMALL) × (after ≡ before)

-- a well-known record is requested in one piece, in the short form if that can hold its length
abbrev pub whole : NdefWriting
whole = record { tnf = 1; flags = 0; chunk = 0 }

-- the record is written so after the message
abbrev pub GivesWhole : Item → (before after : Holding) (count status : ℕ) → Type 0
GivesWhole m before after count status =
    GivesAppended (appended_octets (is_first_of before.builder) whole m)
    (AppendedBegins (is_first_of before.builder) whole m) before after count status
