-- The relation between the fields of a checker and the bytes that it took.
use Rattle.std.specs.Prelude.{◌≡◌, ◌≢◌, ◌+◌, ◌-◌, ◌≤◌, ◌==◌, ◌||◌, nat_lt, ℕ, Bool, true, false, List, [], ◌∷◌, ◌++◌, length, Option, Some, None, is_some, unwrap_or, ⊤, ◌⊎◌, ◌↔◌, if◌then◌else◌}
use Rattle.std.specs.List.{AllByRecursion}
use Rattle.ndef_lang.specs.Machine.TypeName.{name_of}
use Rattle.ndef_format.specs.Messages.{Item, SpellsPieces}
use Rattle.ndef_format.specs.Records.{Piece, HeadFields, octets}
use Rattle.ndef_format.specs.Limits.{LimitValues}
use Rattle.ndef_format.specs.declared.profile.Profile.{Profile}
use Rattle.ndef_format.specs.declared.reason.Reason.TheVariants.{DoesNotFit}
use Rattle.ndef_format.specs.declared.refusal.Refusal.{Refusal}
use Rattle.ndef_lang.specs.Language.{PassesBetween}
use Rattle.ndef_lang.specs.declared.record_language.RecordLanguage.{Ghosts}
use Rattle.ndef_piece.specs.declared.head.Head.{Head}
use Rattle.ndef_format.specs.declared.spot.Spot.{Spot}
use Rattle.ndef_piece.specs.declared.head_reader.Step.TheVariants as steps
use Rattle.ndef_piece.specs.declared.bounds.Bounds.{Bounds}
use Rattle.ndef_piece.specs.Heads as heads
use Rattle.ndef_piece.specs.Heads.{head, BeginsHead}
use Rattle.ndef_format.specs.Positions.{MayOccur, record_so_far}
use Rattle.ndef_piece.specs.Walk.{Before, start, spot, Walked}
use Rattle.ndef_format.specs.Accepted.{IsMember, IsViable}
use Rattle.ndef_message.specs.Machine.Points.{Point, InHead, InType, InId, InPayload, AtEnd, part_octets, IsPartAt, IsAtPoint, IsReasonAt}
use Rattle.ndef_message.specs.Machine.Moves.{Moves, given_next, point_next, point_with}
use Rattle.ndef_message.specs.Machine.Payload.{completes, most_left}
use Rattle.ndef_message.specs.declared.phase.Place.{Place}
use Rattle.ndef_message.specs.declared.phase.Phase.{Phase}
use Rattle.ndef_message.specs.declared.phase.Phase.TheVariants as phases
use Rattle.ndef_message.specs.declared.state.State.{State}
use Rattle.ndef_message.specs.declared.fed.Fed.{Fed}
use Rattle.ndef_message.specs.declared.fed.Fed.TheVariants as fed

-- what is kept of the state before a piece
abbrev pub numbers : Before → Place
numbers c = record { first = c.first; inside = is_some c.begun; records = c.records; pieces = c.pieces; room = c.room }

-- the spot of the piece
abbrev pub spot_of : Profile → Place → Spot
spot_of profile p =
    record {
      profile = profile;
      first = p.first;
      inside = p.inside;
      last_piece = p.pieces == 1;
      last_record = p.records == 1;
      room = p.room;
    }

-- the kept state after a record
abbrev pub after_record : LimitValues → Place → Place
after_record limits p = record {
  first = false;
  inside = false;
  records = p.records - 1;
  pieces = limits.pieces;
  room = limits.payload;
}

-- the kept state after a piece with this number of payload octets, after which its record continues
abbrev pub past_chunk : Place → ℕ → Place
past_chunk p n = record {
  first = false;
  inside = true;
  records = p.records;
  pieces = p.pieces - 1;
  room = p.room - n;
}

-- the kept state after a piece with this head
abbrev pub next : LimitValues → Place → Head → Place
next limits p h = if h.chunked then past_chunk p h.payload_length else after_record limits p

-- the phase after a piece with this head
abbrev pub phase_after : Head → Phase
phase_after h = if h.chunked then phases.Head else (if h.last then phases.Done else phases.Head)

-- the message has ended
abbrev pub is_done : Phase → Bool
is_done phases.Done = true
is_done _ = false

-- the number of accepted bytes among some bytes before this phase: all, or all but a refused one
abbrev pub accepted : Phase → ℕ → ℕ
accepted (phases.Refused refusal) count = count - 1
accepted _ count = count

-- the most payload octets of the record, where a piece goes on within the bounds of its head
abbrev pub greatest_of : Bounds → ℕ → ℕ
greatest_of b room = if b.chunked || nat_lt room b.payload.1 then room else b.payload.1

-- the payload can be completed by the piece of some head that continues these octets
abbrev pub SomeHead : (List ℕ → Type 0) → Spot → List ℕ → Type 0
SomeHead pass spot xs = (f : HeadFields) × BeginsHead spot xs f
    × PassesBetween pass f.payload_length (most_left f.chunked spot.room f.payload_length f.payload_length)

-- the reader is within a head that can go on
abbrev pub IsWithinHead : {L : Type 0} → State L → Type 0
IsWithinHead state = (state.reader.octets ≢ []) × (state.reader.spot.room ≡ state.place.room)
    × heads.IsViableHead state.reader.spot state.reader.octets

-- the payload of an open run can be completed by the piece of a head that continues so
abbrev pub CanGoOn : {L : Type 0} (language : Ghosts L) → State L → Type 0
CanGoOn language state = state.place.inside ≡ true
    → SomeHead (language.future state.payload) state.reader.spot state.reader.octets

-- the language has read the payload of the record so far
pub record Speaks {L : Type 0} (language : Ghosts L) (limits : LimitValues) (payload : L) (m : Item) : Type 0 where
  pub reached : language.reached payload m.tnf m.kind limits.records limits.profile m.payload
  pub future : (r : List ℕ) → language.future payload r ↔ completes language.payloads limits m r

-- it has, where a record is open
abbrev pub SpeaksIf : {L : Type 0} (language : Ghosts L) → LimitValues → (payload : L) → Option Item → Type 0
SpeaksIf language limits payload None = ⊤
SpeaksIf language limits payload (Some m) = Speaks language limits payload m

module _ {L : Type 0} (language : Ghosts L) (limits : LimitValues) (state : State L) where
  -- the fields of the state give the point
  abbrev pub Matches : Point → Type 0
  Matches (InHead c xs) =
      (state.place ≡ numbers c) × (state.phase ≡ phases.Head)
      × (state.reader ≡ record { spot = spot limits.profile c; octets = xs; answer = steps.More })
      × SpeaksIf language limits state.payload c.begun
  Matches (InType c f kind) =
      (state.place ≡ numbers c) × (c.begun ≡ None)
      × (state.phase ≡ phases.Type (head f) (f.kind_length - length kind)) × (name_of state.name ≡ kind)
  Matches (InId c f kind id) =
      (state.place ≡ numbers c) × (state.phase ≡ phases.Id (head f) (unwrap_or f.id_length 0 - length id))
      × Speaks language limits state.payload (record_so_far c.begun f kind id [])
  Matches (InPayload c f kind id payload) =
      (state.place ≡ numbers c) × (state.phase ≡ phases.Payload (head f) (f.payload_length - length payload))
      × Speaks language limits state.payload (record_so_far c.begun f kind id payload)
  Matches (AtEnd c) = (state.place ≡ numbers c) × (state.phase ≡ phases.Done)

  -- these bytes led here, and none was refused
  pub record IsConsistentAt (bytes : List ℕ) (given : List Item) (point : Point) : Type 0 where
    pub at : IsAtPoint limits bytes given point
    pub viable : IsViable language.payloads limits bytes
    pub matches : Matches point

  -- these bytes led here, and the last one was refused
  pub record Stopped (bytes : List ℕ) (given : List Item) (point : Point) : Type 0 where
    pub front : List ℕ
    pub byte : ℕ
    pub refusal : Refusal
    pub split : bytes ≡ front ++ byte ∷ []
    pub at : IsAtPoint limits front given point
    pub viable : IsViable language.payloads limits front
    pub refused : ¬ IsViable language.payloads limits bytes
    pub phase_is : state.phase ≡ phases.Refused refusal
    pub place_is : refusal.at ≡ length front
    pub counted : state.place.records + length given ≡ limits.records
    pub reason : IsReasonAt language.reasons limits point byte refusal.reason

  -- these bytes led here: they end these records, and this is the point before the next byte, or before the one that
  -- was refused
  abbrev pub Reached : List ℕ → List Item → Point → Type 0
  Reached bytes given point = IsConsistentAt bytes given point ⊎ Stopped bytes given point

  -- these bytes led after these parts of a piece
  abbrev pub LiesAfter : List ℕ → List Item → Before → HeadFields → (kind id payload : List ℕ) → Type 0
  LiesAfter bytes given c f kind id payload =
      IsConsistentAt bytes (given_next limits given c f kind id payload) (point_next limits c f kind id payload)

  -- after octets of the field that follows these bytes: all of them lead on, or the last of them was refused
  abbrev pub Onward : List ℕ → List Item → Point → List ℕ → Type 0
  Onward bytes given point t =
      ((given' : List Item) × (point' : Point) × Moves limits given point t given' point'
      × IsConsistentAt (bytes ++ t) given' point')
      ⊎ ((s : List ℕ) × (b : ℕ) × (t ≡ s ++ b ∷ []) × Stopped (bytes ++ t) given (point_with point s))

  -- where so much is left of the id and the payload of a piece with this head
  pub record InBody (h : Head) (id_left left : ℕ) (bytes : List ℕ) (given : List Item) (c : Before) (f : HeadFields)
      (kind id payload : List ℕ) : Type 0 where
    pub pieces : List Piece
    pub done : List ℕ
    pub walked : Walked limits (start limits) pieces given c
    pub spelled : SpellsPieces pieces done
    pub split : bytes ≡ done ++ part_octets f kind id payload
    pub part : IsPartAt limits c f kind id payload
    pub head_is : h ≡ head f
    pub kind_whole : length kind ≡ f.kind_length
    pub id_left_is : id_left ≡ unwrap_or f.id_length 0 - length id
    pub id_fits : length id ≤ unwrap_or f.id_length 0
    pub left_is : left ≡ f.payload_length - length payload
    pub payload_fits : length payload ≤ f.payload_length
    pub in_turn : (length id ≡ unwrap_or f.id_length 0) ⊎ (payload ≡ [])
    pub place_is : state.place ≡ numbers c
    pub speaks : Speaks language limits state.payload (record_so_far c.begun f kind id payload)

  -- the state after some bytes, within the body of a piece
  pub record SomeBody (h : Head) (id_left left : ℕ) : Type 0 where
    pub bytes : List ℕ
    pub given : List Item
    pub before : Before
    pub fields : HeadFields
    pub kind : List ℕ
    pub id : List ℕ
    pub payload : List ℕ
    pub body : InBody h id_left left bytes given before fields kind id payload

  -- after a whole head
  pub record WholeHead (h : Head) (bytes : List ℕ) (given : List Item) (c : Before) (f : HeadFields) : Type 0 where
    pub pieces : List Piece
    pub done : List ℕ
    pub walked : Walked limits (start limits) pieces given c
    pub spelled : SpellsPieces pieces done
    pub split : bytes ≡ done ++ octets f
    pub goes_on : c.over ≡ false
    pub stands : MayOccur (spot limits.profile c) f
    pub head_is : h ≡ head f
    pub place_is : state.place ≡ numbers c
    pub speaks : SpeaksIf language limits state.payload c.begun

  -- the state after some bytes, which end with a whole head
  pub record SomeWhole (h : Head) : Type 0 where
    pub bytes : List ℕ
    pub given : List Item
    pub before : Before
    pub fields : HeadFields
    pub whole : WholeHead h bytes given before fields

-- an octet came after these bytes, and if it is refused, so
pub record Came {L : Type 0} (language : Ghosts L) (limits : LimitValues) (refusal : Refusal) (bytes : List ℕ)
    (given : List Item) (point : Point) (b : ℕ) : Type 0 where
  pub at_is : IsAtPoint limits bytes given point
  pub viable : IsViable language.payloads limits bytes
  pub place_is : refusal.at ≡ length bytes
  pub reason_is : IsReasonAt language.reasons limits point b refusal.reason

-- an octet there doesn't fit
abbrev pub unfit_at : ℕ → Refusal
unfit_at at = record { at = at; reason = DoesNotFit }

-- a statement about bytes that end these records and then have parts of a piece, or a whole head, by the state
-- before the piece
abbrev pub Bodies : Type 1
Bodies = List ℕ → List Item → Before → HeadFields → (kind id payload : List ℕ) → Type 0

abbrev pub WholeHeads : Type 1
WholeHeads = List ℕ → List Item → Before → HeadFields → Type 0

module _ {L : Type 0} (language : Ghosts L) (limits : LimitValues) (new : State L) where
  -- its state is after such parts of a piece, if the bytes can be completed
  abbrev pub SettlesAfter : Bodies → Type 0
  SettlesAfter body = (bytes : List ℕ) (given : List Item) (c : Before) (f : HeadFields) (kind id payload : List ℕ)
      → body bytes given c f kind id payload → IsViable language.payloads limits bytes
      → LiesAfter language limits new bytes given c f kind id payload

  -- its state is after them, or it has refused the last octet of them
  abbrev pub EntersAfter : (at : ℕ) → Bodies → Type 0
  EntersAfter at body = (bytes : List ℕ) (given : List Item) (point : Point) (b : ℕ) (c : Before) (f : HeadFields)
      (kind id payload : List ℕ) → Came language limits (unfit_at at) bytes given point b
      → body (bytes ++ b ∷ []) given c f kind id payload
      → LiesAfter language limits new (bytes ++ b ∷ []) given c f kind id payload
      ⊎ Stopped language limits new (bytes ++ b ∷ []) given point

  -- its state is after such a whole head, if the records have payloads of their kinds
  abbrev pub BeginsAfter : WholeHeads → Type 0
  BeginsAfter head = (bytes : List ℕ) (given : List Item) (c : Before) (f : HeadFields) → head bytes given c f
      → AllByRecursion (IsMember language.payloads limits) given
      → LiesAfter language limits new bytes given c f [] [] []

  -- its state is after such a whole head, or it has refused the last octet of it
  abbrev pub AdvancesPast : (at : ℕ) → WholeHeads → Type 0
  AdvancesPast at head = (bytes : List ℕ) (given : List Item) (point : Point) (b : ℕ) (c : Before) (f : HeadFields)
      → Came language limits (unfit_at at) bytes given point b → head (bytes ++ b ∷ []) given c f
      → LiesAfter language limits new (bytes ++ b ∷ []) given c f [] [] []
      ⊎ Stopped language limits new (bytes ++ b ∷ []) given point

-- the state is that after these bytes, `taken` in number
abbrev pub MatchesInput : {L : Type 0} (language : Ghosts L) → LimitValues → State L → (taken : ℕ) → List ℕ → List Item
    → Point → Type 0
MatchesInput language limits state taken bytes given point = (taken ≡ length bytes)
    × Reached language limits state bytes given point

-- the answer that a phase gives before it sees another byte
abbrev pub answer_of : Phase → ℕ → Option Fed
answer_of phases.Done taken = Some (fed.Done taken)
answer_of (phases.Refused refusal) taken = Some (fed.Refused refusal)
answer_of _ taken = None
