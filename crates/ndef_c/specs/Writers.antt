-- A record that is written in steps.
use Rattle.std.specs.Prelude.{◌≡◌, ℕ, ◌≤◌, List, [], ◌∷◌, ◌++◌, drop, length, take}
use Rattle.std.specs.List.{flat_map}
use Rattle.ndef_format.specs.Records.{tnf_of}
use Rattle.ndef_message.specs.Steps.{Begun, Call, CanBeWritten, Continues, Given, IsBegun, LeavesNothing, WritesNext, octets_left}
use Rattle.ndef_message.specs.declared.plan.RecordPlan.{RecordPlan}
use Rattle.ndef_c.specs.Writes.{MayBeWritten, asked, asked_octets, form_of, is_first, is_last, size_of}
use Rattle.ndef_c.specs.declared.writing.NdefWriting.{NdefWriting}
use Rattle.ndef_c.specs.declared.writer.NdefWriter.{NdefWriter}

-- -- the values that numbers select

-- the lengths of a type, an id and a payload
pub record Lengths : Type 0 where
  pub kind : ℕ
  pub id : ℕ
  pub payload : ℕ

-- the plan of the record that is requested
abbrev pub asked_plan : NdefWriting → Lengths → RecordPlan
asked_plan how lengths = record {
  tnf = tnf_of how.tnf;
  kind_length = lengths.kind;
  id_length = lengths.id;
  payload_length = lengths.payload;
  first = is_first how;
  last = is_last how;
  form = form_of how;
  size = size_of how;
}

-- no unknown flag is set, and a record has these lengths
pub record MayBegin (how : NdefWriting) (lengths : Lengths) : Type 0 where
  pub flags : how.flags ≤ 7
  pub tnf : how.tnf ≤ 5
  pub can : CanBeWritten (asked_plan how lengths)

-- a type, an id and a payload of the lengths
pub record HaveLengths (lengths : Lengths) (kind id payload : List ℕ) : Type 0 where
  pub kind_length : length kind ≡ lengths.kind
  pub id_length : length id ≡ lengths.id
  pub payload_length : length payload ≡ lengths.payload

-- ---- the writer

-- nothing of the record is written
abbrev pub unwritten : NdefWriting → Lengths → NdefWriter
unwritten how lengths = record {
  how = how;
  type_length = lengths.kind;
  id_length = lengths.id;
  payload_length = lengths.payload;
  taken = 0;
  head = 0;
}

-- the lengths that it was begun with
abbrev pub lengths_of : NdefWriter → Lengths
lengths_of w = record { kind = w.type_length; id = w.id_length; payload = w.payload_length }

-- its record, and how much of it is written
abbrev pub begun_of : NdefWriter → Begun
begun_of w = record { plan = asked_plan w.how (lengths_of w); progress = record { taken = w.taken; head = w.head } }

-- a call has left it so
pub record IsWriter (w : NdefWriter) : Type 0 where
  pub may : MayBegin w.how (lengths_of w)
  pub begun : IsBegun (begun_of w)

-- the next octets may be requested with this type, id and part of the payload
pub record MayGoOn (w : NdefWriter) (given : Given) : Type 0 where
  pub writer : IsWriter w
  pub continues : Continues (begun_of w) given

-- it may be begun where such a record may be written whole, and all octets of that are left then
pub record BeginsAsWritten (how : NdefWriting) (lengths : Lengths) : Type 0 where
  pub may : (kind id payload : List ℕ) → HaveLengths lengths kind id payload
      → MayBegin how lengths → MayBeWritten how (asked how kind id payload)
  pub must : (kind id payload : List ℕ) → HaveLengths lengths kind id payload
      → MayBeWritten how (asked how kind id payload) → MayBegin how lengths
  pub octets : (kind id payload : List ℕ) → HaveLengths lengths kind id payload → MayBegin how lengths
      → octets_left (asked_plan how lengths) (begun_of (unwritten how lengths)).progress kind id payload
      ≡ asked_octets how (asked how kind id payload)

-- the next octets are in the buffer, the writer has moved on by them, and all else of it is as it was
pub record MovesOn (old : NdefWriter) (given : Given) (before after : List ℕ) (n : ℕ) (new : NdefWriter) : Type 0 where
  pub same : new ≡ record old { taken = new.taken; head = new.head }
  pub is : IsWriter new
  pub writes : WritesNext (begun_of old) given before after n (begun_of new)

-- ---- law

-- calls one after another, from one writer to another, each given a front of the rest of the payload
abbrev pub AreWriterCalls : (kind id payload : List ℕ) → NdefWriter → List Call → NdefWriter → Type 0
AreWriterCalls kind id payload old [] new = new ≡ old
AreWriterCalls kind id payload old (c ∷ cs) new =
    (more : List ℕ) × (mid : NdefWriter) × (drop old.taken payload ≡ c.part ++ more)
    × MovesOn old (record { kind = kind; id = id; part = c.part }) c.before c.after c.count mid
    × AreWriterCalls kind id payload mid cs new

-- For any parts and buffers, the bytes that the calls have written, joined, are those of the record that is written
-- whole, once nothing of it is left.
abbrev pub WritersWriteRecords : Type 0
WritersWriteRecords = (how : NdefWriting) (lengths : Lengths) (kind id payload : List ℕ) (calls : List Call)
    (last : NdefWriter) → HaveLengths lengths kind id payload → MayBegin how lengths
    → AreWriterCalls kind id payload (unwritten how lengths) calls last
    → LeavesNothing (begun_of last) kind id (drop last.taken payload)
    → flat_map (λ c. take c.count c.after) calls ≡ asked_octets how (asked how kind id payload)
