-- The pieces of a message, one after another, each at its spot.
use Rattle.std.specs.Prelude.{◌≡◌, ℕ, ◌-◌, ◌^◌, ◌<◌, ◌≤◌, map, ◌==◌, Bool, true, false, List, [], ◌∷◌, ◌++◌, length, is_some, unwrap_or, Option, Some, None, ◌↔◌, if◌then◌else◌}
use Rattle.ndef_format.specs.Records.{Piece, IsPiece, AreOctets, Run, tnf_of}
use Rattle.ndef_format.specs.Messages.{Item, run_record, payload_of, all_pieces, EndsOnce, IsMessage}
use Rattle.ndef_format.specs.Limits.{LimitValues, AreInRange, IsWithin}
use Rattle.ndef_format.specs.declared.profile.Profile.{Profile}
use Rattle.ndef_format.specs.declared.spot.Spot.{Spot}
use Rattle.ndef_format.specs.Positions.{IsConsistentAt, spot_after, AreBefore, NoneLast}

-- the state before a piece, by the pieces before it
pub record Before : Type 0 where
  -- no piece was before it
  pub first : Bool
  -- the message has ended, and no piece follows
  pub over : Bool
  -- the number of records that may still end
  pub records : ℕ
  -- the number of pieces that its record may still have
  pub pieces : ℕ
  -- the number of payload bytes that its record may still have
  pub room : ℕ
  -- its record as far as it has come, where a run is open
  pub begun : Option Item

-- NDEF 1.0, chunked payloads: where a record begins, and where a run goes on
abbrev pub outside : LimitValues → (first over : Bool) → (records : ℕ) → Before
outside limits first over records =
    record {
      first = first;
      over = over;
      records = records;
      pieces = limits.pieces;
      room = limits.payload;
      begun = None;
    }

-- NDEF 1.0, chunked payloads: within a run that has begun this record
abbrev pub inside : (records pieces room : ℕ) → Item → Before
inside records pieces room m =
    record { first = false; over = false; records = records; pieces = pieces; room = room; begun = Some m }

-- before the first piece of a message
abbrev pub start : LimitValues → Before
start limits = outside limits true false limits.records

-- the part of it on which the head of the piece depends
abbrev pub spot : Profile → Before → Spot
spot profile c = record {
  profile = profile;
  first = c.first;
  inside = is_some c.begun;
  last_piece = c.pieces == 1;
  last_record = c.records == 1;
  room = c.room;
}

-- NDEF 1.0, chunked payloads: the record as far as it has come with this piece
abbrev pub record_with : Option Item → Piece → Item
record_with None p =
    record { tnf = tnf_of p.tnf; kind = p.kind; id = unwrap_or p.id []; payload = p.payload }
record_with (Some m) p =
    record { tnf = m.tnf; kind = m.kind; id = m.id; payload = m.payload ++ p.payload }

-- NDEF 1.0, CF: the record that the piece ends, if it does
abbrev pub ending_record : Before → Piece → List Item
ending_record c p = if p.chunked then [] else record_with c.begun p ∷ []

-- NDEF 1.0, CF and ME: the state after the piece
abbrev pub after : LimitValues → Before → Piece → Before
after limits c p =
    if p.chunked then inside c.records (c.pieces - 1) (c.room - length p.payload) (record_with c.begun p)
    else outside limits false p.last (c.records - 1)

-- NDEF 1.0, messages: these pieces occur in turn, end these records, and the last of them ends the
-- message
abbrev pub Walk : LimitValues → Before → List Piece → List Item → Type 0
Walk limits c [] items = (c.over ≡ true) × (items ≡ [])
Walk limits c (p ∷ ps) items =
    (c.over ≡ false) × IsConsistentAt (spot limits.profile c) p × (rest : List Item)
    × (items ≡ ending_record c p ++ rest)
    × Walk limits (after limits c p) ps rest

-- NDEF 1.0, messages: these pieces occur in turn, end these records, and the state after them is d
abbrev pub Walked : LimitValues → Before → List Piece → List Item → Before → Type 0
Walked limits c [] items d = (items ≡ []) × (d ≡ c)
Walked limits c (p ∷ ps) items d =
    (c.over ≡ false) × IsConsistentAt (spot limits.profile c) p × (rest : List Item)
    × (items ≡ ending_record c p ++ rest)
    × Walked limits (after limits c p) ps rest d

-- the state if these are the pieces of the open run, none if no run is open
abbrev pub standing : LimitValues → (first over : Bool) → (records : ℕ) → List Piece → Before
standing limits first over records [] = outside limits first over records
standing limits first over records (p ∷ ps) =
    inside records (limits.pieces - length (p ∷ ps)) (limits.payload - length (payload_of (p ∷ ps)))
    (run_record (record { initial = p; later = ps }))

-- the runs that a walk has completed, and the pieces of the one that it is in
pub record IsCounted (limits : LimitValues) (ps : List Piece) (done : List Item) (d : Before) : Type 0 where
  pub runs : List Run
  pub begun : List Piece
  pub pieces_are : ps ≡ all_pieces runs ++ begun
  pub done_are : done ≡ map run_record runs
  pub before : AreBefore limits runs begun
  pub spot_is : spot limits.profile d ≡ spot_after limits runs begun
  pub known : d ≡ standing limits d.first d.over (limits.records - length runs) begun
  pub over : d.over ≡ true → EndsOnce ps
  pub not_over : d.over ≡ false → NoneLast ps

-- ---- laws

-- The pieces that walk from the start are those of the messages within the limits.
abbrev pub WalksAreMessages : Type 0
WalksAreMessages = (limits : LimitValues) (ps : List Piece) (items : List Item) → AreInRange limits
    → Walk limits (start limits) ps items ↔ ((runs : List Run) × (ps ≡ all_pieces runs)
    × IsMessage limits.profile runs items × IsWithin limits runs)

-- A walk can be cut after any of its pieces.
abbrev pub WalksAreCut : Type 0
WalksAreCut = (limits : LimitValues) (c : Before) (ps qs : List Piece) (items : List Item)
    → Walk limits c (ps ++ qs) items
    ↔ ((done rest : List Item) × (d : Before) × (items ≡ done ++ rest) × Walked limits c ps done d
    × Walk limits d qs rest)

-- The payload of an open run as far as it has come goes before what its pieces to come bring, and
-- decides nothing else.
abbrev pub RunsGoOn : Type 0
RunsGoOn = (limits : LimitValues) (records pieces room : ℕ) (m : Item) (ps : List Piece) (items : List Item)
    → Walk limits (inside records pieces room m) ps items
    ↔ ((payload : List ℕ) × (rest : List Item)
    × (items ≡ record m { payload = m.payload ++ payload } ∷ rest)
    × Walk limits (inside records pieces room (record m { payload = [] })) ps (record m { payload = payload } ∷ rest))

-- The state after a walk follows from the runs that it has completed, and from the pieces of
-- the one that it is in.
abbrev pub WalksAreCounted : Type 0
WalksAreCounted = (limits : LimitValues) (ps : List Piece) (done : List Item) (d : Before)
    → Walked limits (start limits) ps done d
    → IsCounted limits ps done d

-- A message that is not over can be ended by one piece, with any payload that fits.
abbrev pub WalksCanEnd : Type 0
WalksCanEnd =
    (limits : LimitValues) (c : Before) (payload : List ℕ) → c.over ≡ false → AreOctets payload
    → length payload ≤ c.room → c.room < 2 ^ 32
    → (p : Piece) × IsPiece p × (p.payload ≡ payload)
    × Walk limits c (p ∷ []) (record_with c.begun p ∷ [])
