-- The output for an input past a record that is refused.
use Rattle.std.specs.Prelude.{◌≡◌, ◌==◌, ◌&&◌, not, nat_le, ℕ, ◌+◌, ◌<◌, ◌≤◌, Bool, true, false, Option, Some, None, unwrap_or, Result, Ok, Err, List, [], ◌∷◌, ◌++◌, drop, length, take, if◌then◌else◌}
use Rattle.ndef_format.specs.Limits.{LimitValues}
use Rattle.ndef_format.specs.declared.refusal.Refusal.{Refusal}
use Rattle.ndef_fields.specs.Reports.{AreFieldsBefore, TellsFields}
use Rattle.ndef_fields.specs.declared.field.Field.{Field}
use Rattle.ndef_fields.specs.declared.report.FieldReport.{FieldReport}
use Rattle.ndef_cli.specs.Quoting.{Text}
use Rattle.ndef_cli_explain.specs.Forms.{Form}
use Rattle.ndef_cli_explain.specs.Messages.{IsRecoveryText}
use Rattle.ndef_cli_explain.specs.RefusedRecords.{EndRecords, IsRefusedRecord}
use Rattle.ndef_cli_explain.specs.Refusals.{IsSaid, goes_on_text, goes_on_where, refused_text, sound_text}
use Rattle.ndef_cli_explain.specs.declared.recovery_place.Recovery.{Recovery}
use Rattle.ndef_cli_explain.specs.declared.refused_record.RefusedRecord.{RefusedRecord}
use Rattle.ndef_cli_explain.specs.declared.said_refusal.SaidRefusal.{SaidRefusal}

-- ---- places

-- NDEF 1.0, MB: the bytes with MB set in their first octet, where it is clear
abbrev pub with_begin : List ℕ → List ℕ
with_begin [] = []
with_begin (octet ∷ bytes) = (octet + 128) ∷ bytes

-- NDEF 1.0, messages: after other records of its message the rest of it is read as a message of its own
abbrev pub as_read : (records : ℕ) → List ℕ → List ℕ
as_read records bytes = if records == 0 then bytes else with_begin bytes

-- NDEF 1.0, MB: whether nothing is left, or another message begins where records of this one have to come
abbrev pub is_over : (records : ℕ) → List ℕ → Bool
is_over records [] = true
is_over records (octet ∷ bytes) = not (records == 0) && nat_le 128 octet

-- a message begins at this place; this number of records before it are sound
abbrev pub message_at : (number at sound : ℕ) → Recovery
message_at number at sound = record { message = number; records = 0; at = at; sound = sound; refused = 0 }

-- NDEF 1.0, ME: the place past a refused record that ends here, in its message or before the next
abbrev pub past : Recovery → RefusedRecord → (end : ℕ) → Recovery
past from found end = record {
  message = if found.last then from.message + 1 else from.message;
  records = if found.last then 0 else from.records + found.before + 1;
  at = from.at + end;
  sound = from.sound + found.before;
  refused = from.refused + 1;
}

-- the place past the last record of a message, which has this number of bytes and records
abbrev pub past_message : Recovery → (bytes count : ℕ) → Recovery
past_message from bytes count = record {
  message = from.message + 1;
  records = 0;
  at = from.at + bytes;
  sound = from.sound + count;
  refused = from.refused;
}

-- ---- from one place to another

-- the output for a refusal of the bytes that are read, and for the record in which it is
abbrev pub IsRefusalText : Form → Recovery → (read bytes : List ℕ) → Refusal → RefusedRecord → Text → Type 0
IsRefusalText form from read bytes refusal found text =
    (before : List Field) × (said : SaidRefusal) × AreFieldsBefore (take refusal.at read) before
    × IsSaid read bytes refusal None said
    × (text ≡ refused_text form from (take refusal.at bytes) before said
    ++ goes_on_where form from found.before found.end)

-- the numbers of messages and of records up to a place
pub record AreCounts (from : Recovery) : Type 0 where
  pub message : from.message ≤ from.at + 1
  pub records : from.records ≤ from.at
  pub sound : from.sound ≤ from.at
  pub refused : from.refused ≤ from.at

-- NDEF 1.0, messages: the output for this message or refusal of the bytes that are read, and the place past it;
-- where the end of a refused record isn't known, nothing is read past it
abbrev pub IsStep : Form → (read bytes : List ℕ) → (from next : Recovery) → Result FieldReport Refusal → Text → Type 0
IsStep form read bytes from next (Ok reported) text =
    (count : ℕ) × EndRecords (take reported.taken read) count × (next ≡ past_message from reported.taken count)
    × IsRecoveryText form from bytes reported text
IsStep form read bytes from next (Err refusal) text =
    (found : RefusedRecord) × IsRefusedRecord read refusal found
    × (next ≡ past from found (unwrap_or found.end (length bytes)))
    × IsRefusalText form from read bytes refusal found text

-- the next place comes later, within this number of bytes
abbrev pub IsLater : (from next : Recovery) → (size : ℕ) → Type 0
IsLater from next size = (from.at < next.at) × (next.at ≤ from.at + size) × AreCounts next

-- the same of the bytes that are read, which begin with a message or are refused
abbrev pub IsNext : Form → LimitValues → (read bytes : List ℕ) → (from next : Recovery) → Text → Type 0
IsNext form limits read bytes from next text =
    (reported : Result FieldReport Refusal) × TellsFields limits read reported
    × IsStep form read bytes from next reported text

-- the output from a place to the last one, by these places between them
abbrev pub AreRecovery : Form → LimitValues → (input : List ℕ) → (places : List Recovery) → (from last : Recovery)
    → Text → Type 0
AreRecovery form limits input [] from last text =
    (is_over from.records (drop from.at input) ≡ true) × (last ≡ from) × (text ≡ [])
AreRecovery form limits input (next ∷ places) from last text =
    (one : Text) × (later : Text) × (is_over from.records (drop from.at input) ≡ false)
    × IsNext form limits (as_read from.records (drop from.at input)) (drop from.at input) from next one
    × AreRecovery form limits input places next last later × (text ≡ one ++ later)

-- the same, by some places
abbrev pub IsRecovery : Form → LimitValues → (input : List ℕ) → (from last : Recovery) → Text → Type 0
IsRecovery form limits input from last text =
    (places : List Recovery) × AreRecovery form limits input places from last text

-- ---- the end

-- all that is printed past a refused record at this place, where its end is known
abbrev pub IsPastEnd : Form → LimitValues → (input : List ℕ) → Recovery → RefusedRecord → (end : Option ℕ) → Text
    → Type 0
IsPastEnd form limits input from found None text = text ≡ []
IsPastEnd form limits input from found (Some end) text =
    (last : Recovery) × (later : Text) × IsRecovery form limits input (past from found end) last later
    × (text ≡ goes_on_text form from found.before end ++ (later ++ sound_text form last))

-- the same, past the first refusal of an input: in the message of this number, which begins at this place
abbrev pub IsPastRefusal : Form → LimitValues → (input : List ℕ) → (number at : ℕ) → Refusal → Text → Type 0
IsPastRefusal form limits input number at refusal text =
    (sound : ℕ) × (found : RefusedRecord) × EndRecords (take at input) sound
    × IsRefusedRecord (drop at input) refusal found
    × IsPastEnd form limits input (message_at number at sound) found found.end text
