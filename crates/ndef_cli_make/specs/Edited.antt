-- The message that is edited, and the output for it.
use Rattle.std.specs.Prelude.{◌≡◌, ◌<◌, ◌⊎◌, ◌+◌, ◌++◌, ℕ, Bool, true, false, List, [], ◌∷◌, drop, length, map, nat_lt, take, Option, Some, None, Result, Ok, Err, ⊤, if◌then◌else◌, Vec}
use Rattle.std.specs.declared.alloc.Global.{Global}
use Rattle.std.specs.List.{flat_map, slice_get}
use Rattle.clap.specs.Words.{Text}
use Rattle.ndef_format.specs.Accepted.{Accepted}
use Rattle.ndef_format.specs.Limits.{LimitValues, strict_limits}
use Rattle.ndef_format.specs.Messages.{Item}
use Rattle.ndef_format.specs.NestedReasons.{TypedReason}
use Rattle.ndef_format.specs.Payloads.{IsTypedPayload}
use Rattle.ndef_format.specs.Refusals.{Refuses}
use Rattle.ndef_message.specs.Readings.{NeedsMemory}
use Rattle.ndef_cli_make.specs.Asked.{AskedPart}
use Rattle.ndef_cli_make.specs.Editing.{AreNumbers, AskFor, IsWrongPart, added_by, altered_by, edit_parts, edited, in_place, number_of, records_in}
use Rattle.ndef_cli.specs.Inputs.{GivesInput}
use Rattle.ndef_cli_make.specs.Inputs.{ReadsNamed, is_standard_input, readers_of}
use Rattle.ndef_cli_make.specs.Making.{AreMadeIn, FailsIn, MakesAll, MakesFrom}
use Rattle.ndef_cli_make.specs.Records.{Answer}
use Rattle.ndef_cli_make.specs.declared.editing.Edit.{Edit}
use Rattle.ndef_cli_make.specs.declared.editing.Edit.TheVariants.{Keeps, Drops, Replaces, Adds}
use Rattle.ndef_cli_make.specs.declared.fault.Fault.{Fault}
use Rattle.ndef_cli_make.specs.declared.fault.Fault.TheVariants.{Usage, UsageAt, Refused, Memory}
use Rattle.ndef_cli_make.specs.declared.fault.Refused.TheVariants.{BadMessage, BytesAfter, NoRecords}
use Rattle.ndef_cli_make.specs.declared.making.Writing.{Writing}
use Rattle.ndef_cli_make.specs.declared.making.Written.{Written}
use Rattle.ndef_cli_make.specs.declared.usage_error.UsageError.TheVariants as usage_error

-- ---- the message that is edited

-- limits as large as they go, of a strict reader
abbrev pub widest_limits : LimitValues
widest_limits = strict_limits 4294967295 65535 65535

-- NDEF 1.0, messages: the bytes are a message of these records, for a strict reader
abbrev pub IsMessageOf : List Item → List ℕ → Type 0
IsMessageOf items bytes = Accepted IsTypedPayload widest_limits items bytes

-- NDEF 1.0, messages: the records of the one message that the bytes are; or where and why a strict
-- reader refuses them, or where the bytes after a message begin
abbrev pub IsMessageIn : List ℕ → Result (List Item) Fault → Type 0
IsMessageIn bytes (Ok items) = IsMessageOf items bytes
IsMessageIn bytes (Err (Refused (BadMessage refusal))) =
    Refuses IsTypedPayload TypedReason widest_limits bytes refusal
IsMessageIn bytes (Err (Refused (BytesAfter at))) =
    (items : List Item) × IsMessageOf items (take at bytes) × (at < length bytes)
IsMessageIn bytes (Err Memory) =
    (seen : List ℕ) × NeedsMemory IsTypedPayload widest_limits (Some bytes) seen
IsMessageIn bytes (Err _) = ⊥

-- the records of the message in the file, or why there are none
abbrev pub ReadsMessage : {I : Type 0} → GivesInput I → (name : Text) → (before after : I)
    → Result (List Item) Fault → Type 0
ReadsMessage gives name before after (Ok items) =
    (file : List ℕ) × ReadsNamed gives name before after (Ok file) × IsMessageIn file (Ok items)
ReadsMessage gives name before after (Err fault) = ReadsNamed gives name before after (Err fault)
    ⊎ ((file : List ℕ) × ReadsNamed gives name before after (Ok file) × IsMessageIn file (Err fault))

-- the records of the message that is edited: those of the one in the file, or none without a file
abbrev pub ReadsOriginal : {I : Type 0} → GivesInput I → (file : Option Text) → (before after : I)
    → Result (Vec Item Global) Fault → Type 0
ReadsOriginal gives (Some name) before after (Ok old) =
    ReadsMessage gives name before after (Ok old.items)
ReadsOriginal gives (Some name) before after (Err fault) =
    ReadsMessage gives name before after (Err fault)
ReadsOriginal gives None before after (Ok old) = (after ≡ before) × (old.items ≡ [])
ReadsOriginal gives None before after (Err fault) = ⊥

-- ---- the records of edits

-- the edit with the record that is made
abbrev pub IsEditWith : (Item → Edit Item) → (makes : Answer → Type 0) → Result (Edit Item) Fault
    → Type 0
IsEditWith edit makes (Ok made) = (i : Item) × makes (Ok i) × (made ≡ edit i)
IsEditWith edit makes (Err fault) = makes (Err fault)

-- the edit with the record of its part
abbrev pub MakesEdit : {I : Type 0} → GivesInput I → Edit AskedPart → (before after : I)
    → Result (Edit Item) Fault → Type 0
MakesEdit gives (Keeps flags) before after answer = (after ≡ before) × (answer ≡ Ok (Keeps flags))
MakesEdit gives (Drops n flags) before after answer = (after ≡ before) × (answer ≡ Ok (Drops n flags))
MakesEdit gives (Replaces n part) before after answer =
    IsEditWith (λ i. Replaces n i) (MakesFrom gives part before after) answer
MakesEdit gives (Adds part) before after answer =
    IsEditWith (λ i. Adds i) (MakesFrom gives part before after) answer

-- the records with those that edits add, and the other edits with their records; or the first edit of
-- which no record is made, and why
abbrev pub MakesEdits : {I : Type 0} → GivesInput I → List (Edit AskedPart) → (before after : I)
    → (old new : List Item) → Result (Vec (Edit Item) Global) Fault → Type 0
MakesEdits gives edits before after old new (Ok others) = (items : List (Edit Item))
    × AreMadeIn (MakesEdit gives) edits before after items × (new ≡ old ++ flat_map added_by items)
    × (others.items ≡ flat_map altered_by items)
MakesEdits gives edits before after old new (Err fault) = FailsIn (MakesEdit gives) edits before after fault

-- the record at this index is left out or replaced, or stays, by the edit
abbrev pub IsPlaced : (at : ℕ) → Option (Edit Item) → (before after : List Item) → Type 0
IsPlaced at edit before after = (item : Item) → slice_get before at ≡ Some item
    → after ≡ take at before ++ (in_place edit item ++ drop (at + 1) before)

-- -- the output

-- NDEF 1.0, messages: the output for the records, of which there has to be one
abbrev pub WritesRecords : List (Edit AskedPart) → Writing → List Item → Result Written Fault
    → Type 0
WritesRecords edits writing [] answer = answer ≡ Err (Refused NoRecords)
WritesRecords edits writing (i ∷ items) answer = MakesAll edits writing (i ∷ items) answer

-- the output for a message of these records after the edits, or why there is none
abbrev pub EditsMessage : {I : Type 0} → GivesInput I → List (Edit AskedPart) → Writing
    → (old : List Item) → (before after : I) → Result Written Fault → Type 0
EditsMessage gives edits writing old before after (Ok made) = (items : List (Edit Item))
    × AreNumbers (length old) (map number_of edits) (Ok tt)
    × AreMadeIn (MakesEdit gives) edits before after items
    × WritesRecords edits writing (edited old items) (Ok made)
EditsMessage gives edits writing old before after (Err fault) =
    ((after ≡ before) × AreNumbers (length old) (map number_of edits) (Err fault))
    ⊎ (AreNumbers (length old) (map number_of edits) (Ok tt)
    × (FailsIn (MakesEdit gives) edits before after fault
    ⊎ ((items : List (Edit Item)) × AreMadeIn (MakesEdit gives) edits before after items
    × WritesRecords edits writing (edited old items) (Err fault))))

-- ---- the file and the words

-- the name of the file of the message that is edited, if one is named, and the edits of it
pub record Editing : Type 0 where
  pub file : Option Text
  pub edits : List (Edit AskedPart)

-- the output for the message after the edits, or why there is none
abbrev pub IsEdited : {I : Type 0} → GivesInput I → Editing → Writing → (before after : I)
    → Result Written Fault → Type 0
IsEdited {I} gives editing writing before after (Ok made) = (old : Vec Item Global) × (middle : I)
    × ReadsOriginal gives editing.file before middle (Ok old)
    × EditsMessage gives editing.edits writing old.items middle after (Ok made)
IsEdited {I} gives editing writing before after (Err fault) =
    ReadsOriginal gives editing.file before after (Err fault)
    ⊎ ((old : Vec Item Global) × (middle : I) × ReadsOriginal gives editing.file before middle (Ok old)
    × EditsMessage gives editing.edits writing old.items middle after (Err fault))

-- the number of inputs that are standard input: the message, and the payloads of parts
abbrev pub edit_readers : Editing → ℕ
edit_readers editing =
    (if is_standard_input editing.file then 1 else 0) + readers_of (records_in editing.edits)

-- the same, where not more than one is
abbrev pub IsEditedIf : {I : Type 0} → (many : Bool) → GivesInput I → Editing → Writing
    → (before after : I) → Result Written Fault → Type 0
IsEditedIf true gives editing writing before after made =
    (after ≡ before) × (made ≡ Err (Usage usage_error.TwoReaders))
IsEditedIf false gives editing writing before after made = IsEdited gives editing writing before after made

-- the same of a message and its edits
abbrev pub IsEditedOf : {I : Type 0} → GivesInput I → Editing → Writing → (before after : I)
    → Result Written Fault → Type 0
IsEditedOf gives editing writing before after made =
    IsEditedIf (nat_lt 1 (edit_readers editing)) gives editing writing before after made

-- the first part whose words are wrong is at fault, or memory
abbrev pub IsWrongIn : (file : Option Text) → List (List Text) → Fault → Type 0
IsWrongIn file parts (UsageAt n m) = IsWrongPart file parts n m
IsWrongIn file parts Memory = ⊤
IsWrongIn file parts _ = ⊥

-- the same of the file, where one is named, and the words of the parts. Memory may run out for the words, before an
-- input is read
abbrev pub IsEditedOfWords : {I : Type 0} → GivesInput I → Option Text × List Text → Writing
    → (before after : I) → Result Written Fault → Type 0
IsEditedOfWords gives origin writing before after (Ok made) = (edits : List (Edit AskedPart))
    × AskFor origin.0 (edit_parts origin) edits
    × IsEditedOf gives (record { file = origin.0; edits = edits }) writing before after (Ok made)
IsEditedOfWords gives origin writing before after (Err fault) =
    ((after ≡ before) × IsWrongIn origin.0 (edit_parts origin) fault)
    ⊎ ((edits : List (Edit AskedPart)) × AskFor origin.0 (edit_parts origin) edits
    × IsEditedOf gives (record { file = origin.0; edits = edits }) writing before after (Err fault))
