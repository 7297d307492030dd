-- The places of the records of some bytes.
use Rattle.std.specs.Prelude.{◌≡◌, ℕ, ◌+◌, ◌<◌, ◌≤◌, ◌⊎◌, Bool, true, false, List, [], ◌∷◌, ◌++◌, length, take, drop, Ok, Option, Some, None}
use Rattle.ndef_format.specs.Records.{Piece, Run, IsRun, pieces, code, bit}
use Rattle.ndef_format.specs.Messages.{SpellsPieces, run_record}
use Rattle.ndef_format.specs.Limits.{LimitValues}
use Rattle.ndef_format.specs.declared.profile.Profile.TheVariants.{Standard}
use Rattle.ndef_format.specs.Payloads.{Sets}
use Rattle.ndef_format.specs.Reasons.{Conditions}
use Rattle.ndef_message.specs.Views.{Viewed, Views}
use Rattle.ndef_piece.specs.Whole.{IsSplit}
use Rattle.ndef_c.specs.Buffers.{Gives}
use Rattle.ndef_c.specs.declared.record.NdefRecord.{NdefRecord}
use Rattle.ndef_c.specs.declared.walk.Walk.{Walk}

-- NDEF 1.0, chunked payloads: the bytes begin with the pieces of a run, all of them whole, and
-- these follow
pub record BeginsWithRun (run : Run) (rest bytes : List ℕ) : Type 0 where
  pub read : IsRun Standard run
  pub front : List ℕ
  pub spelled : SpellsPieces (pieces run) front
  pub joined : bytes ≡ front ++ rest

-- NDEF 1.0, chunked payloads: a record begins at the place, and all of it is there
abbrev pub IsRecordThere : List ℕ → ℕ → Type 0
IsRecordThere bytes at = (run : Run) × (rest : List ℕ) × BeginsWithRun run rest (drop at bytes)

-- NDEF 1.0, ME: the last of some pieces ends its message
abbrev pub ends_message : Piece → List Piece → Bool
ends_message p [] = p.last
ends_message p (q ∷ qs) = ends_message q qs

-- `count` bytes from the place `at` on, all of them there, are the part
pub record Lies (bytes : List ℕ) (at count : ℕ) (part : List ℕ) : Type 0 where
  pub within : at + count ≤ length bytes
  pub are : take count (drop at bytes) ≡ part
  pub count_is : count ≡ length part

-- these runs lie one after another from a place to another
abbrev pub LieBetween : List ℕ → (at : ℕ) → List Run → (end : ℕ) → Type 0
LieBetween bytes at [] end = at ≡ end
LieBetween bytes at (r ∷ rs) end = (next : ℕ) × BeginsWithRun r (drop next bytes) (drop at bytes)
    × LieBetween bytes next rs end

-- NDEF 1.0, record layout: a piece begins at a place and ends at another
abbrev pub LiesFromTo : List ℕ → (at : ℕ) → Piece → (end : ℕ) → Type 0
LiesFromTo bytes at p end = (short : Bool) × IsSplit p short (drop end bytes) (drop at bytes)

-- NDEF 1.0, record layout and chunked payloads: this is the record at the place, and where its
-- parts lie, one after another, the payload last
pub record IsRecordAt (bytes : List ℕ) (at : ℕ) (r : NdefRecord) : Type 0 where
  pub run : Run
  pub begins : BeginsWithRun run (drop r.end bytes) (drop at bytes)
  pub at_is : r.at ≡ at
  pub onward : at < r.end
  pub within : r.end ≤ length bytes
  pub tnf : r.tnf ≡ code (run_record run).tnf
  pub kind : Lies bytes r.type_at r.type_length (run_record run).kind
  pub id : Lies bytes r.id_at r.id_length (run_record run).id
  pub part : Lies bytes r.payload_at r.part_length run.initial.payload
  pub first : LiesFromTo bytes at run.initial (r.payload_at + r.part_length)
  pub id_after : r.id_at ≡ r.type_at + r.type_length
  pub part_after : r.payload_at ≡ r.id_at + r.id_length
  pub payload : r.payload_length ≡ length (run_record run).payload
  pub pieces_are : r.chunks ≡ length (pieces run)
  pub last : r.last ≡ bit (ends_message run.initial run.later)

-- the payload of the record at the place is given
pub record GivesPayload (bytes : List ℕ) (at : ℕ) (before after : List ℕ) (count status : ℕ) : Type 0 where
  pub run : Run
  pub rest : List ℕ
  pub begins : BeginsWithRun run rest (drop at bytes)
  pub gives : Gives (run_record run).payload before after count status

-- ---- walks

-- NDEF 1.0, messages: no more records come: the message has ended, or no record begins at the place
abbrev pub IsOver : Walk → Type 0
IsOver w = (w.ended ≡ true) ⊎ ¬ IsRecordThere w.bytes.now w.at

-- NDEF 1.0, messages: the record at the place comes, and then those after its end, unless it ends the message
pub record PassesOver (w : Walk) (r : NdefRecord) (after : Walk) : Type 0 where
  pub going : w.ended ≡ false
  pub record_is : IsRecordAt w.bytes.now w.at r
  pub same : after.bytes.now ≡ w.bytes.now
  pub next : after.at ≡ r.end
  pub ends : after.ended ≡ ends_message record_is.run.initial record_is.run.later

-- the result of a step of a walk
abbrev pub WalksOn : Walk → Option NdefRecord → Walk → Type 0
WalksOn w None after = IsOver w
WalksOn w (Some r) after = PassesOver w r after

-- ---- laws

-- At a place begins one record, and it ends at one place.
abbrev pub OneRecordIsThere : Type 0
OneRecordIsThere =
    (r s : Run) (x y bytes : List ℕ) → BeginsWithRun r x bytes → BeginsWithRun s y bytes → (r ≡ s)
    × (x ≡ y)

-- no run follows
abbrev pub is_last_run : List Run → Bool
is_last_run [] = true
is_last_run (r ∷ rs) = false

-- these runs lie one after another from a place to another, and the last of them alone ends its
-- message
abbrev pub AreWalked : List ℕ → (at : ℕ) → List Run → (end : ℕ) → Type 0
AreWalked bytes at [] end = at ≡ end
AreWalked bytes at (r ∷ rs) end =
    (next : ℕ) × BeginsWithRun r (drop next bytes) (drop at bytes)
    × (ends_message r.initial r.later ≡ is_last_run rs)
    × AreWalked bytes next rs end

-- A message that a check accepts is walked from 0 to its end, in bytes that go no less far.
abbrev pub ChecksAreWalked : Sets → Conditions → Type 0
ChecksAreWalked set holds = (limits : LimitValues) (input : List ℕ) (v : Viewed) (count : ℕ)
    → Views set holds limits input (Ok v)
    → v.taken ≤ count → AreWalked (take count input) 0 v.runs v.taken
