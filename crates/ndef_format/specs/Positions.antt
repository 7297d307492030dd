-- The field of the next octet of a message, and the octets before it (NFC Forum, NDEF 1.0, record
-- layout).
use Rattle.std.specs.Prelude.{◌^◌, ◌<◌, unwrap_or, ◌≡◌, ◌≢◌, ◌≤◌, true, false, None, ℕ, ◌+◌, List, ◌∷◌, ◌++◌, [], length, ⊤, Bool, ◌-◌, ◌==◌, ◌&&◌, not, Option, Some}
use Rattle.std.specs.List.{AllByRecursion}
use Rattle.ndef_format.specs.Records.{HeadFields, FitsForm, IsRead, HasShape, tnf_of, octets, Piece, IsInitial, IsLater, AreOctets, Run, pieces, Follow}
use Rattle.ndef_format.specs.Messages.{payload_of, EndsOnce, SpellsPieces, all_pieces, Item, run_record}
use Rattle.ndef_format.specs.Limits.{LimitValues}
use Rattle.ndef_format.specs.declared.spot.Spot.{Spot}

-- NDEF 1.0, record layout: each field fits in its octets
pub record CanBeSpelled (f : HeadFields) : Type 0 where
  pub tnf : f.tnf < 8
  pub kind : f.kind_length < 256
  pub payload : f.payload_length < 2 ^ 32
  pub form : FitsForm f.short f.payload_length
  pub id : unwrap_or f.id_length 0 < 256

-- NDEF 1.0, record layout and chunked payloads: a piece with these fields may occur at the spot
pub record MayOccur (spot : Spot) (f : HeadFields) : Type 0 where
  pub spelled : CanBeSpelled f
  -- a strict reader refuses the reserved type name format
  pub read : IsRead spot.profile f.tnf
  pub shape : HasShape (tnf_of f.tnf) f.kind_length (unwrap_or f.id_length 0) f.payload_length
  -- MB in the first piece of the message and in no other
  pub begins : f.first ≡ spot.first
  -- a record begins with a type name format of its own, and an empty one has one piece
  pub outside : spot.inside ≡ false → (f.tnf ≢ 6) × (f.chunked ≡ true → f.tnf ≢ 0)
  -- a run goes on unchanged, without an id
  pub inside : spot.inside ≡ true → (f.tnf ≡ 6) × (f.id_length ≡ None)
  -- where another piece of the record follows, it is not the end of the message, and one more piece
  -- is allowed
  pub chunked : f.chunked ≡ true → (f.last ≡ false) × (spot.last_piece ≡ false)
  -- where another record follows, one more is allowed
  pub followed : f.chunked ≡ false → f.last ≡ false → spot.last_record ≡ false
  pub room : f.payload_length ≤ spot.room

-- the octets are a front of some head that may occur at the spot, and not the whole of it
pub record IsOpen (spot : Spot) (xs : List ℕ) : Type 0 where
  pub fields : HeadFields
  pub stands : MayOccur spot fields
  pub next : ℕ
  pub rest : List ℕ
  pub spelled : octets fields ≡ xs ++ next ∷ rest

-- NDEF 1.0, messages and chunked payloads: the rules of a message for one piece, of MB, ME and CF,
-- of the type name formats of runs, of the shape of records, and of the limits
pub record IsConsistentAt (spot : Spot) (p : Piece) : Type 0 where
  -- MB in the first piece of the message and in no other
  pub begins : p.first ≡ spot.first
  -- an initial piece has the shape of its record, except for a payload that continues
  pub initial : spot.inside ≡ false
      → IsInitial spot.profile p
      × HasShape (tnf_of p.tnf) (length p.kind) (length (unwrap_or p.id [])) (length p.payload)
  -- a middle or terminating piece is unchanged, without type and id
  pub later : spot.inside ≡ true → IsLater p
  -- where another piece of the record follows, it is not the end of the message, and one more piece
  -- is allowed
  pub chunked : p.chunked ≡ true → (p.last ≡ false) × (spot.last_piece ≡ false)
  -- where another record follows, one more is allowed
  pub followed : p.chunked ≡ false → p.last ≡ false → spot.last_record ≡ false
  pub room : length p.payload ≤ spot.room

-- ---- fields

-- NDEF 1.0, record layout: the field of the next octet, and what of its piece came before it:
-- octets of its head; its head, and octets of TYPE; then of ID; then of PAYLOAD. And the end of the
-- message.
pub data Field : Type 0 where
  InHead : (front : List ℕ) → Field
  InType : (head : HeadFields) (name : List ℕ) → Field
  InId : (head : HeadFields) (name id : List ℕ) → Field
  InPayload : (head : HeadFields) (name id content : List ℕ) → Field
  AtEnd : Field

-- the octets of that piece so far
abbrev pub octets_so_far : Field → List ℕ
octets_so_far (InHead front) = front
octets_so_far (InType head name) = octets head ++ name
octets_so_far (InId head name id) = octets head ++ (name ++ id)
octets_so_far (InPayload head name id content) = octets head ++ (name ++ (id ++ content))
octets_so_far AtEnd = []

-- NDEF 1.0, record layout: the octets are a front of a piece, whose head may occur at the spot
pub record IsPart (spot : Spot) (head : HeadFields) (name id content : List ℕ) : Type 0 where
  pub stands : MayOccur spot head
  pub name_octets : AreOctets name
  pub id_octets : AreOctets id
  pub content_octets : AreOctets content

-- another octet of the field is to come, of a piece that may occur at the spot
abbrev pub IsProper : Spot → Field → Type 0
IsProper spot (InHead front) = IsOpen spot front
IsProper spot (InType head name) = IsPart spot head name [] [] × (length name < head.kind_length)
IsProper spot (InId head name id) =
    IsPart spot head name id [] × (length name ≡ head.kind_length)
    × (length id < unwrap_or head.id_length 0)
IsProper spot (InPayload head name id content) =
    IsPart spot head name id content × (length name ≡ head.kind_length)
    × (length id ≡ unwrap_or head.id_length 0)
    × (length content < head.payload_length)
IsProper spot AtEnd = ⊤

-- -- the pieces before a field

-- no run is open
abbrev pub is_between : (begun : List Piece) → Bool
is_between [] = true
is_between (p ∷ begun) = false

-- NDEF 1.0, messages and chunked payloads: the spot of a piece, after whole runs and the pieces of
-- an open one
abbrev pub spot_after : LimitValues → List Run → (begun : List Piece) → Spot
spot_after limits runs begun = record {
  profile = limits.profile;
  first = is_between begun && (length runs == 0);
  inside = not (is_between begun);
  last_piece = length begun + 1 == limits.pieces;
  last_record = length runs + 1 == limits.records;
  room = limits.payload - length (payload_of begun);
}

-- each of these pieces may follow those before it, after these runs and the first pieces of an
-- open one
abbrev pub PiecesAreConsistent : LimitValues → List Run → (begun ps : List Piece) → Type 0
PiecesAreConsistent limits runs begun [] = ⊤
PiecesAreConsistent limits runs begun (p ∷ ps) =
    IsConsistentAt (spot_after limits runs begun) p × PiecesAreConsistent limits runs (begun ++ p ∷ []) ps

-- each piece of these runs may follow those before it, after the runs before them
abbrev pub RunsAreConsistent : LimitValues → (before runs : List Run) → Type 0
RunsAreConsistent limits before [] = ⊤
RunsAreConsistent limits before (r ∷ runs) =
    PiecesAreConsistent limits before [] (pieces r) × RunsAreConsistent limits (before ++ r ∷ []) runs

-- NDEF 1.0, messages and chunked payloads: whole runs and the pieces of an open one, each of which
-- may follow those before it
pub record AreBefore (limits : LimitValues) (runs : List Run) (begun : List Piece) : Type 0 where
  -- CF is clear in the last piece of a run, and set in the others
  pub whole : AllByRecursion (λ r. Follow r.initial.chunked r.later) runs
  pub going_on : AllByRecursion (λ p. p.chunked ≡ true) begun
  pub runs_are_consistent : RunsAreConsistent limits [] runs
  pub begun_are_consistent : PiecesAreConsistent limits runs [] begun

-- ME is clear in these pieces
abbrev pub NoneLast : List Piece → Type 0
NoneLast = AllByRecursion (λ p. p.last ≡ false)

-- NDEF 1.0, messages: ME is set in none of the pieces before a field, and at the end of the message
-- in the last of them
abbrev pub EndsAt : Field → List Piece → Type 0
EndsAt AtEnd ps = EndsOnce ps
EndsAt _ ps = NoneLast ps

-- The octets are those of these runs and of the pieces of an open one, and a proper front of one
-- more piece, or all of a message.
pub record IsAt (limits : LimitValues) (bytes : List ℕ)
    (runs : List Run) (begun : List Piece) (field : Field) : Type 0 where
  pub front : List ℕ
  pub split : bytes ≡ front ++ octets_so_far field
  pub spelled : SpellsPieces (all_pieces runs ++ begun) front
  pub before : AreBefore limits runs begun
  pub ends : EndsAt field (all_pieces runs ++ begun)
  pub proper : IsProper (spot_after limits runs begun) field

-- NDEF 1.0, chunked payloads: the record of the pieces of an open run, none where no run is open
abbrev pub begun_record : List Piece → Option Item
begun_record [] = None
begun_record (p ∷ begun) = Some (run_record (record { initial = p; later = begun }))

-- NDEF 1.0, chunked payloads: the record as far as it has come, with these octets of one more piece
abbrev pub record_so_far : Option Item → HeadFields → (kind id payload : List ℕ) → Item
record_so_far None f kind id payload =
    record { tnf = tnf_of f.tnf; kind = kind; id = id; payload = payload }
record_so_far (Some m) f kind id payload = record m { payload = m.payload ++ payload }
