-- The result of a search for the first record with a property.
use Rattle.std.specs.Prelude.{◌≡◌, ◌≢◌, ℕ, true, false, List, [], drop}
use Rattle.std.specs.List.{AllByRecursion}
use Rattle.ndef_format.specs.Messages.{Item, run_record}
use Rattle.ndef_format.specs.Records.{Run, code}
use Rattle.ndef_c.specs.Walks.{BeginsWithRun, IsRecordAt, IsRecordThere, LieBetween, ends_message}
use Rattle.ndef_c.specs.declared.finding.Expected.{Expected}
use Rattle.ndef_c.specs.declared.finding.Expected.TheVariants.{Kind as OfKind, Id as WithId}
use Rattle.ndef_c.specs.declared.record.NdefRecord.{NdefRecord}

-- NDEF 1.0, TNF and TYPE: the record has this type name format and this type
abbrev pub IsOfType : (tnf : ℕ) → (kind : List ℕ) → Item → Type 0
IsOfType tnf kind i = (code i.tnf ≡ tnf) × (i.kind ≡ kind)

-- NDEF 1.0, ID: the record has this id, which isn't empty
abbrev pub HasIdOf : List ℕ → Item → Type 0
HasIdOf id i = (id ≢ []) × (i.id ≡ id)

-- one or the other
abbrev pub Has : Expected → Item → Type 0
Has (OfKind tnf kind) i = IsOfType tnf kind.now i
Has (WithId id) i = HasIdOf id.now i

-- the property that is sought of records
abbrev pub RecordQuery : Type 1
RecordQuery = Item → Type 0

-- NDEF 1.0, ME: the record of the run hasn't the expected property, and isn't the last of its
-- message
abbrev pub IsPassed : RecordQuery → Run → Type 0
IsPassed P run = (¬ P (run_record run)) × (ends_message run.initial run.later ≡ false)

-- NDEF 1.0, messages: from a place up to another lie records, one after another, that are all
-- passed
pub record PassesTo (P : RecordQuery) (bytes : List ℕ) (at next : ℕ) : Type 0 where
  pub runs : List Run
  pub between : LieBetween bytes at runs next
  pub passed : AllByRecursion (IsPassed P) runs

-- NDEF 1.0, messages: of the records from the place on, up to the last of the message, it is the
-- first that is sought
pub record FindsAt (P : RecordQuery) (bytes : List ℕ) (at : ℕ) (out : NdefRecord) : Type 0 where
  pub next : ℕ
  pub passes : PassesTo P bytes at next
  pub record_is : IsRecordAt bytes next out
  pub has : P (run_record record_is.run)

-- NDEF 1.0, messages: none of the records from the place on, up to the last of the message, has
-- the expected property
pub record HasNone (P : RecordQuery) (bytes : List ℕ) (at : ℕ) : Type 0 where
  pub next : ℕ
  pub passes : PassesTo P bytes at next
  pub run : Run
  pub rest : List ℕ
  pub begins : BeginsWithRun run rest (drop next bytes)
  pub lacks : ¬ P (run_record run)
  pub ends : ends_message run.initial run.later ≡ true

-- NDEF 1.0, messages: before any of them is sought or the last, no record begins where the one
-- before it ends
pub record BreaksOff (P : RecordQuery) (bytes : List ℕ) (at : ℕ) : Type 0 where
  pub next : ℕ
  pub passes : PassesTo P bytes at next
  pub gap : ¬ IsRecordThere bytes next
