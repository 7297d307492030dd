-- The rest of a record that is written in steps.
use Rattle.std.specs.Prelude.{true, false, ◌≡◌, ◌≢◌, ℕ, ◌+◌, ◌-◌, ◌%◌, ◌<◌, ◌≤◌, ◌^◌, ◌==◌, ◌&&◌, min, nat_le, nat_lt, Bool, List, [], ◌∷◌, ◌++◌, length, take, drop, unwrap_or, if◌then◌else◌}
use Rattle.std.specs.List.{flat_map}
use Rattle.std.specs.Option.{ForSome}
use Rattle.ndef_format.specs.Messages.{Item}
use Rattle.ndef_format.specs.Records.{HasShape, HeadFields, octets, pieces}
use Rattle.ndef_format.specs.declared.tnf.Tnf.TheVariants.{Unchanged}
use Rattle.ndef_message.specs.Cut.{all_parts, cut_run, later_pieces}
use Rattle.ndef_message.specs.Heads.{first_fields, later_fields}
use Rattle.ndef_message.specs.Written.{written_piece}
use Rattle.ndef_message.specs.declared.plan.Progress.{Progress}
use Rattle.ndef_message.specs.declared.plan.RecordPlan.{RecordPlan}

-- ---- the record

-- the record of this type, id and payload
abbrev pub planned_item : RecordPlan → (kind id payload : List ℕ) → Item
planned_item p kind id payload = record { tnf = p.tnf; kind = kind; id = id; payload = payload }

-- NDEF 1.0, record layout and chunked payloads: its octets, in the chunks of its cut
abbrev pub planned_octets : RecordPlan → (kind id payload : List ℕ) → List ℕ
planned_octets p kind id payload =
    flat_map (written_piece p.form) (pieces (cut_run p.first p.last p.size (planned_item p kind id payload)))

-- NDEF 1.0, TNF and record layout: parts of these lengths go together, and a head can say them
pub record CanBeWritten (p : RecordPlan) : Type 0 where
  pub changed : p.tnf ≢ Unchanged
  pub shape : HasShape p.tnf p.kind_length p.id_length p.payload_length
  pub kind : p.kind_length < 256
  pub id : p.id_length < 256
  pub payload : p.payload_length < 2 ^ 32

-- a type and an id of the lengths
pub record AreNames (p : RecordPlan) (kind id : List ℕ) : Type 0 where
  pub kind_length : length kind ≡ p.kind_length
  pub id_length : length id ≡ p.id_length

-- ---- its chunks

-- the payload octets that a chunk can have
abbrev pub chunk_size : RecordPlan → ℕ
chunk_size p = unwrap_or p.size 4294967295

-- the octet of the payload with which the chunk begins that is begun
abbrev pub chunk_begin : RecordPlan → (taken : ℕ) → ℕ
chunk_begin p taken = taken - taken % chunk_size p

-- the payload octets of the chunk that begins there
abbrev pub chunk_length : RecordPlan → (begin : ℕ) → ℕ
chunk_length p begin = min (p.payload_length - begin) (chunk_size p)

-- whether it is the last of its record
abbrev pub is_last_chunk : RecordPlan → (begin : ℕ) → Bool
is_last_chunk p begin = nat_le (p.payload_length - begin) (chunk_size p)

-- NDEF 1.0, record layout: the fields of its head
abbrev pub chunk_fields : RecordPlan → (begin : ℕ) → HeadFields
chunk_fields p begin =
    if begin == 0
    then first_fields (record { first = p.first; last = p.last; alone = is_last_chunk p 0 }) p.form p.tnf
    p.kind_length p.id_length (chunk_length p 0)
    else later_fields p.last (is_last_chunk p begin) p.form (chunk_length p begin)

-- NDEF 1.0, record layout: its octets before the payload; a later chunk has no type and no id
abbrev pub chunk_front : RecordPlan → (begin : ℕ) → (kind id : List ℕ) → List ℕ
chunk_front p begin kind id = octets (chunk_fields p begin) ++ (if begin == 0 then kind ++ id else [])

-- ---- the rest of it

-- a payload that has an octet is written
abbrev pub is_over : RecordPlan → Progress → Bool
is_over p at = nat_lt 0 p.payload_length && at.taken == p.payload_length

-- NDEF 1.0, chunked payloads: the octets of the chunks after one, where these are left of the payload
abbrev pub later_octets : RecordPlan → (rest : List ℕ) → List ℕ
later_octets p rest = flat_map (written_piece p.form) (later_pieces p.last (all_parts (chunk_size p) rest))

-- the rest of the chunk that is begun, and the chunks after it, where `rest` is left of the payload
abbrev pub unwritten : RecordPlan → Progress → (kind id rest : List ℕ) → List ℕ
unwritten p at kind id rest =
    let inside = at.taken % chunk_size p in
    drop at.head (chunk_front p (chunk_begin p at.taken) kind id)
    ++ (take (chunk_size p - inside) rest ++ later_octets p (drop (chunk_size p - inside) rest))

-- the octets of the record that are left
unfoldable pub octets_left : RecordPlan → Progress → (kind id rest : List ℕ) → List ℕ
octets_left p at kind id rest = if is_over p at then [] else unwritten p at kind id rest

-- the octets of a chunk before the payload, for names of the lengths
abbrev pub front_length : RecordPlan → (begin : ℕ) → ℕ
front_length p begin =
    length (octets (chunk_fields p begin)) + (if begin == 0 then p.kind_length + p.id_length else 0)

-- what writing in steps leaves, however much fitted each time
pub record IsProgress (p : RecordPlan) (at : Progress) : Type 0 where
  pub taken : at.taken ≤ p.payload_length
  pub over : is_over p at ≡ true → at.head ≡ 0
  pub most : at.head ≤ front_length p (chunk_begin p at.taken)
  -- payload octets go out after the whole front of their chunk
  pub inside : is_over p at ≡ false → at.taken % chunk_size p ≢ 0
      → at.head ≡ front_length p (chunk_begin p at.taken)

-- -- the output of a call

-- with this part of the payload that is left, these octets go out next, whatever the payload is after it
pub record Steps (p : RecordPlan) (kind id part : List ℕ) (old new : Progress) (text : List ℕ) : Type 0 where
  pub from : old.taken ≤ new.taken
  pub to : new.taken ≤ old.taken + length part
  pub octets : (more : List ℕ) → old.taken + length (part ++ more) ≡ p.payload_length
      → octets_left p old kind id (part ++ more)
      ≡ text ++ octets_left p new kind id (drop (new.taken - old.taken) (part ++ more))

-- the next octet is one of the payload, or none is left
abbrev pub WantsPayload : RecordPlan → Progress → Type 0
WantsPayload p at = (kind id rest : List ℕ) → AreNames p kind id → at.taken + length rest ≡ p.payload_length
    → take 1 (octets_left p at kind id rest) ≡ take 1 rest

-- ---- what an encoder of a record holds, and what its calls do

-- nothing is written
abbrev pub unstarted : Progress
unstarted = record { taken = 0; head = 0 }

-- a record, and how much of it is written
pub record Begun : Type 0 where
  pub plan : RecordPlan
  pub progress : Progress

-- it is a record, its chunks have payload octets, and writing in steps leaves this much of it
pub record IsBegun (b : Begun) : Type 0 where
  pub can : CanBeWritten b.plan
  pub size : ForSome b.plan.size (λ n. 1 ≤ n)
  pub is : IsProgress b.plan b.progress

-- all of the record is left, whatever its type, id and payload are
abbrev pub LeavesAll : Begun → Type 0
LeavesAll b = (kind id payload : List ℕ) → AreNames b.plan kind id → length payload ≡ b.plan.payload_length
    → octets_left b.plan b.progress kind id payload ≡ planned_octets b.plan kind id payload

-- nothing of it is left
abbrev pub LeavesNothing : Begun → (kind id rest : List ℕ) → Type 0
LeavesNothing b kind id rest = octets_left b.plan b.progress kind id rest ≡ []

-- these are left of its payload, and these are its type and id
pub record AreLeft (b : Begun) (kind id rest : List ℕ) : Type 0 where
  pub names : AreNames b.plan kind id
  pub all : b.progress.taken + length rest ≡ b.plan.payload_length

-- the arguments of a call: the type, the id, and a part of the payload that is left, from its first octet on
pub record Given : Type 0 where
  pub kind : List ℕ
  pub id : List ℕ
  pub part : List ℕ

-- they have the lengths of the plan
pub record Continues (b : Begun) (given : Given) : Type 0 where
  pub names : AreNames b.plan given.kind given.id
  pub there : b.progress.taken + length given.part ≤ b.plan.payload_length

-- the front of the buffer has as many of the next octets of the record, and the rest of it is as it was
pub record WritesNext (old : Begun) (given : Given) (before after : List ℕ) (count : ℕ) (new : Begun) : Type 0 where
  pub plan : new.plan ≡ old.plan
  pub octets : Steps old.plan given.kind given.id given.part old.progress new.progress (take count after)
  pub within : count ≤ length before
  pub kept : drop count after ≡ drop count before
  -- where there is space left, the whole part is taken, and no octet can come but one of the payload after it
  pub all : count < length before
      → (new.progress.taken ≡ old.progress.taken + length given.part) × WantsPayload old.plan new.progress

-- ---- law

-- a call: the part that it was given, the buffer before and after it, and the number of octets that it wrote
pub record Call : Type 0 where
  pub part : List ℕ
  pub before : List ℕ
  pub after : List ℕ
  pub count : ℕ

-- calls one after another, each given a front of the rest of the payload
abbrev pub AreCalls : (kind id payload : List ℕ) → Begun → List Call → Begun → Type 0
AreCalls kind id payload old [] new = new ≡ old
AreCalls kind id payload old (c ∷ cs) new =
    (more : List ℕ) × (mid : Begun) × (drop old.progress.taken payload ≡ c.part ++ more)
    × WritesNext old (record { kind = kind; id = id; part = c.part }) c.before c.after c.count mid
    × AreCalls kind id payload mid cs new

-- For any parts and buffers, the bytes that the calls have written, joined, and the rest are the record.
abbrev pub StepsAreExact : Type 0
StepsAreExact =
    (p : RecordPlan) (kind id payload : List ℕ) (calls : List Call) (last : Begun) → CanBeWritten p
    → ForSome p.size (λ n. 1 ≤ n) → AreNames p kind id → length payload ≡ p.payload_length
    → AreCalls kind id payload (record { plan = p; progress = unstarted }) calls last
    → flat_map (λ c. take c.count c.after) calls
    ++ octets_left last.plan last.progress kind id (drop last.progress.taken payload)
    ≡ planned_octets p kind id payload
