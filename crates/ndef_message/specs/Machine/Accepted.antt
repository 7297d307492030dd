-- Whole records at the front of some bytes, found right by a fast test.
use Rattle.std.specs.Prelude.{◌≡◌, ◌-◌, ◌<◌, ◌≤◌, ℕ, Bool, true, false, List, [], ◌∷◌, ◌++◌, length, take, None, if◌then◌else◌}
use Rattle.std.specs.List.{AllByRecursion}
use Rattle.ndef_format.specs.Records.{Piece, AreOctets, tnf_of}
use Rattle.ndef_format.specs.Messages.{Item, SpellsPieces}
use Rattle.ndef_format.specs.Limits.{LimitValues}
use Rattle.ndef_format.specs.Payloads.{Sets}
use Rattle.ndef_lang.specs.Language.{AllPass}
use Rattle.ndef_lang.specs.RecordLanguage.{AllLead}
use Rattle.ndef_lang.specs.declared.record_language.RecordLanguage.{Ghosts}
use Rattle.ndef_format.specs.HeadReasons.{is_set, tnf_number}
use Rattle.ndef_format.specs.Positions.{IsOpen}
use Rattle.ndef_format.specs.Positions as pieces
use Rattle.ndef_piece.specs.Walk.{Before, inside, outside, Walked}
use Rattle.ndef_piece.specs.Whole.{IsSplit, shown}
use Rattle.ndef_piece.specs.declared.head_reader.Step.TheVariants as steps
use Rattle.ndef_piece.specs.declared.whole.WholePiece.{WholePiece}
use Rattle.ndef_format.specs.Accepted.{IsMember}
use Rattle.ndef_message.specs.Machine.Fronts.{Fronts}
use Rattle.ndef_message.specs.Machine.Points.{Point, IsBetweenRecords}
use Rattle.ndef_message.specs.Machine.State.{numbers, spot_of}
use Rattle.ndef_message.specs.declared.phase.Place.{Place}
use Rattle.ndef_message.specs.declared.phase.Phase.TheVariants as phases
use Rattle.ndef_message.specs.declared.state.State.{State}

-- the record in one piece
abbrev pub record_of : WholePiece → Item
record_of w = record { tnf = tnf_of (tnf_number w.header); kind = w.kind.now; id = w.id.now; payload = w.payload.now }

-- the bytes up to the end of that piece
abbrev pub passed : List ℕ → WholePiece → List ℕ
passed bytes w = take (length bytes - length w.rest.now) bytes

-- NDEF 1.0, record layout: the bytes begin with a record in one piece, which may occur at the place, with a payload of
-- its kind
pub record BeginsWith (set : Sets) (limits : LimitValues) (place : Place) (bytes : List ℕ)
    (w : WholePiece) : Type 0 where
  pub outer : place.inside ≡ false
  pub split : IsSplit (shown w) (is_set 4 w.header) w.rest.now bytes
  pub no_id : is_set 3 w.header ≡ false → w.id.now ≡ []
  pub stands : pieces.IsConsistentAt (spot_of limits.profile place) (shown w)
  pub one : is_set 5 w.header ≡ false
  pub member : IsMember set limits (record_of w)

-- NDEF 1.0, messages: the bytes are whole pieces, from where a record may begin to where one may or the message ends,
-- and `left` records may still end then; these records have come, each with a payload of its kind
pub record EndsRecords (set : Sets) (limits : LimitValues) (c : Before) (items : List Item) (left : ℕ) (last : Bool)
    (bytes : List ℕ) : Type 0 where
  pub pieces : List Piece
  pub spelled : SpellsPieces pieces bytes
  pub walked : Walked limits c pieces items (outside limits false last left)
  pub members : AllByRecursion (IsMember set limits) items

-- one record has come, from the place
abbrev pub BringsRecord : Sets → LimitValues → Place → (last : Bool) → List ℕ → Type 0
BringsRecord set limits place last bytes = (c : Before) → place ≡ numbers c → c.begun ≡ None → c.over ≡ false
    → (item : Item) × EndsRecords set limits c (item ∷ []) (c.records - 1) last bytes

-- one record has come, with the first `taken` of the bytes
pub record IsTakenRecord (set : Sets) (limits : LimitValues) (place : Place) (bytes : List ℕ) (taken : ℕ)
    (last : Bool) : Type 0 where
  pub some : 0 < taken
  pub within : taken ≤ length bytes
  pub outer : place.inside ≡ false
  pub ends : BringsRecord set limits place last (take taken bytes)

-- no record or more have come, and this place is reached
pub record Comes (set : Sets) (limits : LimitValues) (c : Before) (bytes : List ℕ) (place' : Place)
    (last : Bool) : Type 0 where
  pub there : Before
  pub place_is : place' ≡ numbers there
  pub no_run : there.begun ≡ None
  pub over : there.over ≡ last
  pub some : 0 < length bytes → there ≡ outside limits false last there.records
  pub pieces : List Piece
  pub items : List Item
  pub spelled : SpellsPieces pieces bytes
  pub walked : Walked limits c pieces items there
  pub members : AllByRecursion (IsMember set limits) items

-- records have come, with the first `taken` of the bytes
pub record AreTakenRecords (set : Sets) (limits : LimitValues) (place : Place) (bytes : List ℕ) (taken : ℕ)
    (place' : Place) (last : Bool) : Type 0 where
  pub within : taken ≤ length bytes
  pub comes : (c : Before) → place ≡ numbers c → c.begun ≡ None → c.over ≡ false
      → Comes set limits c (take taken bytes) place' last

-- ---- the pieces of a run

-- the record with more payload
abbrev pub with_payload : Item → List ℕ → Item
with_payload m payload = record m { payload = m.payload ++ payload }

-- NDEF 1.0, chunked payloads: the bytes are the pieces that continue an open run up to its end, with this payload
pub record EndsRun (limits : LimitValues) (records pieces room : ℕ) (m : Item) (bytes : List ℕ)
    (last : Bool) : Type 0 where
  pub later : List Piece
  pub payload : List ℕ
  pub octets : AreOctets payload
  pub spelled : SpellsPieces later bytes
  pub walked : Walked limits (inside records pieces room m) later (with_payload m payload ∷ [])
      (outside limits false last (records - 1))

-- NDEF 1.0, chunked payloads: the bytes end the run that is open at the place
abbrev pub IsRunEnd : LimitValues → Place → List ℕ → Bool → Type 0
IsRunEnd limits place bytes last = (records pieces room : ℕ) (m : Item) → place ≡ numbers (inside records pieces room m)
    → EndsRun limits records pieces room m bytes last

-- the state before a piece of an open run and the record so far, and how far some bytes continue the run, with the
-- rest to come
pub record RunGoesOn (limits : LimitValues) (c : Before) (m : Item) (place : Place) (bytes rest : List ℕ) : Type 0 where
  pub later : List Piece
  pub payload : List ℕ
  pub front : List ℕ
  pub pieces_left : ℕ
  pub room_left : ℕ
  pub place_is : place ≡ numbers (inside c.records pieces_left room_left (with_payload m payload))
  pub joined : bytes ≡ front ++ rest
  pub octets : AreOctets payload
  pub spelled : SpellsPieces later front
  pub walked : Walked limits c later [] (inside c.records pieces_left room_left (with_payload m payload))

-- NDEF 1.0, chunked payloads: the bytes are pieces that continue the run open at the place, up to this place
abbrev pub AreChunks : LimitValues → Place → List ℕ → Place → Type 0
AreChunks limits place bytes place' = (records pieces room : ℕ) (m : Item)
    → place ≡ numbers (inside records pieces room m)
    → RunGoesOn limits (inside records pieces room m) m place' bytes []

-- ---- a checker between records

-- a record may begin, and no octet of it has come
pub record IsFresh {L : Type 0} (state : State L) : Type 0 where
  pub phase_is : state.phase ≡ phases.Head
  pub empty : state.reader.octets ≡ []
  pub outer : state.place.inside ≡ false

-- the state at this place follows whole records, and another may begin there or the message ends
pub record IsAfter {L : Type 0} (limits : LimitValues) (state : State L) (place : Place) (last : Bool) : Type 0 where
  pub place_is : state.place ≡ place
  pub reader_is : last ≡ false → state.reader ≡ record {
    spot = spot_of limits.profile place;
    octets = [];
    answer = steps.More;
  }
  pub opens : last ≡ false → IsOpen (spot_of limits.profile place) []
  pub phase_is : state.phase ≡ (if last then phases.Done else phases.Head)

-- ---- a checker within a run

-- a piece of an open run may begin, no octet of it has come, and any octets complete the payload
pub record IsAtChunk {L : Type 0} (language : Ghosts L) (state : State L) : Type 0 where
  pub phase_is : state.phase ≡ phases.Head
  pub empty : state.reader.octets ≡ []
  pub inner : state.place.inside ≡ true
  pub future : AllPass (language.future state.payload)
  pub reached : AllLead (language.reached state.payload)

-- the state at this place follows pieces of the run, and another begins there
pub record IsAfterChunks {L : Type 0} (limits : LimitValues) (old new : State L) (place : Place) : Type 0 where
  pub place_is : new.place ≡ place
  pub reader_is : new.reader ≡ record { spot = spot_of limits.profile place; octets = []; answer = steps.More }
  pub opens : IsOpen (spot_of limits.profile place) []
  pub payload_is : new.payload ≡ old.payload
  pub phase_is : new.phase ≡ old.phase

-- ---- records given

-- the bytes end these records, and no record is begun
abbrev pub IsReachableBetween : Fronts Point → List ℕ → List Item → Type 0
IsReachableBetween reached bytes given = (next : Point) × IsBetweenRecords next × reached bytes given next
