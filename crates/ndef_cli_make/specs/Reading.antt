-- The message that is read back after it was made.
use Rattle.std.specs.Prelude.{◌≡◌, ◌≤◌, ◌++◌, ℕ, Bool, false, List, [], length, drop, Option, None, Some, Result, Ok, Vec}
use Rattle.std.specs.declared.alloc.Global.{Global}
use Rattle.std.specs.List.{AllByRecursion, list_any}
use Rattle.clap.specs.Words.{Text}
use Rattle.ndef_format.specs.Messages.{Spells, Item}
use Rattle.ndef_format.specs.Limits.{IsWithin, LimitValues}
use Rattle.ndef_format.specs.Canonical.{canonical}
use Rattle.ndef_format.specs.declared.profile.Profile.TheVariants.{Strict}
use Rattle.ndef_format.specs.Kinds.{kind_of}
use Rattle.ndef_format.specs.Reasons.{Conditions}
use Rattle.ndef_format.specs.Payloads.{Sets}
use Rattle.ndef_format.specs.declared.kind.Kind.{Kind}
use Rattle.ndef_format.specs.declared.kind.Kind.TheVariants as kinds
use Rattle.ndef_message.specs.Cut.{cut}
use Rattle.ndef_message.specs.Readings.{GivesBack, ReadsInput}
use Rattle.ndef_message.specs.declared.message_reading.Read.{Read}
use Rattle.ndef_message.specs.declared.message_reading.ReadError.{ReadError}
use Rattle.ndef_cli_make.specs.Checking.{is_unchecked}
use Rattle.ndef_cli.specs.Inputs.{GivesInput}
use Rattle.ndef_cli_make.specs.SizeChecks.{record_words}
use Rattle.ndef_cli_make.specs.Edited.{Editing, MakesEdit, ReadsOriginal}
use Rattle.ndef_cli_make.specs.Editing.{AskFor, edit_parts, edited, origin_in, records_in}
use Rattle.ndef_cli_make.specs.Making.{AreMadeIn, written_as}
use Rattle.ndef_cli_make.specs.Outcomes.{IsMadeOfWords}
use Rattle.ndef_cli_make.specs.declared.editing.Edit.{Edit}
use Rattle.ndef_cli_make.specs.declared.making.Written.{Written}

-- RTD Smart Poster 1.0, Connection Handover 1.2: the octets of the message in a payload, after a
-- version octet
abbrev pub message_octets : Kind → List ℕ → List ℕ
message_octets kinds.SmartPoster payload = payload
message_octets kinds.Request payload = drop 1 payload
message_octets kinds.Select payload = drop 1 payload
message_octets _ payload = []

-- a message in the payload of the record has at most `records` records
abbrev pub HoldsFew : (records : ℕ) → Item → Type 0
HoldsFew records i =
    (inner : List Item) → Spells Strict inner (message_octets (kind_of i.tnf i.kind) i.payload)
    → length inner ≤ records

-- limits that admit the records, each in one piece
pub record Admits (limits : LimitValues) (items : List Item) : Type 0 where
  pub within : IsWithin limits (cut None items)
  pub inner : AllByRecursion (HoldsFew limits.records) items

-- a reader whose limits admit the records reads them, whatever follows them
abbrev pub IsReadBack : Sets → Conditions → List Item → Type 0
IsReadBack set holds items =
    (limits : LimitValues) (rest : List ℕ) (after : Option (List ℕ)) (result : Result Read ReadError)
    → Admits limits items → ReadsInput set holds limits (canonical items ++ rest) after result
    → GivesBack items (canonical items) rest after result

-- the text is that of the records of the message that is edited but for what the edits say, and then of what they add,
-- and all these are read
abbrev pub ReadsBack : {I : Type 0} → GivesInput I → Sets → Conditions → Editing
    → (before after : I) → Written → Type 0
ReadsBack {I} gives set holds editing before after made =
    (old : Vec Item Global) × (items : List (Edit Item)) × (middle : I)
    × ReadsOriginal gives editing.file before middle (Ok old)
    × AreMadeIn (MakesEdit gives) editing.edits middle after items
    × (made.text ≡ written_as made.shown (canonical (edited old.items items)))
    × IsReadBack set holds (edited old.items items)

-- The message that is made of words is read back as the records of the message in the file, if one is named, but for
-- those that the words change, and then those that they add, unless a record is to be written unchecked.
abbrev pub MadeIsRead : {I : Type 0} → GivesInput I → Sets → Conditions → Type 0
MadeIsRead {I} gives set holds =
    (words parts : List Text) (terminal : Bool) (before after : I) (made : Written)
    (editing : Editing)
    → IsMadeOfWords gives words terminal before after (Ok made)
    → origin_in (record_words words) ≡ Some (editing.file, parts)
    → AskFor editing.file (edit_parts (editing.file, parts)) editing.edits
    → list_any is_unchecked (records_in editing.edits) ≡ false
    → ReadsBack gives set holds editing before after made
