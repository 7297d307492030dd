-- The message that the words request, and the output for it.
use Rattle.std.specs.Prelude.{◌≡◌, ◌<◌, ◌≤◌, ◌&&◌, ◌++◌, ◌+◌, ℕ, Bool, not, if◌then◌else◌, List, [], ◌∷◌, length, decimal, Option, Some, None, Result, Ok, Err, codes}
use Rattle.clap.specs.Words.{Row, Text, first_of}
use Rattle.ndef_format.specs.Canonical.{AreItems, canonical}
use Rattle.ndef_format.specs.Messages.{Item}
use Rattle.ndef_cli.specs.Outputs.{hexadecimal_line}
use Rattle.ndef_cli_make.specs.Asked.{AskedPart}
use Rattle.ndef_cli_make.specs.Carriers.{MakesCarrier, carrier_said}
use Rattle.ndef_cli_make.specs.Checking.{MakesIf, is_unchecked}
use Rattle.ndef_cli_make.specs.Editing.{flags_in, records_in}
use Rattle.ndef_cli_make.specs.Faults.{fault_at}
use Rattle.ndef_cli.specs.Inputs.{GivesInput}
use Rattle.ndef_cli_make.specs.Inputs.{ReadsFor}
use Rattle.ndef_cli_make.specs.SizeChecks.{size_mismatch}
use Rattle.ndef_cli_make.specs.Options.{id_said, subject_named}
use Rattle.ndef_cli_make.specs.Contents.{MakesHandoverSaid, MakesPosterRecord}
use Rattle.ndef_cli_make.specs.References.{IsLongName, missing_reference}
use Rattle.ndef_cli_make.specs.Records.{Answer, IsUnmade, MakesItem, MakesNamed, MakesSaid, MakesText, MakesUri, app_said, external_said, item_said, media_said, text_said, uri_said}
use Rattle.ndef_cli_make.specs.declared.editing.Edit.{Edit}
use Rattle.ndef_cli_make.specs.declared.editing.Flags.{Flags}
use Rattle.ndef_cli_make.specs.declared.fault.Fault.{Fault}
use Rattle.ndef_cli_make.specs.declared.fault.Fault.TheVariants.{Usage, Refused, Memory}
use Rattle.ndef_cli_make.specs.declared.fault.Refused.TheVariants.{NoRecord, NoRoom, PartTooLong, TooManyRecords}
use Rattle.ndef_cli_make.specs.declared.making.Written.{Written}
use Rattle.ndef_cli_make.specs.declared.making.OutputFormat.{OutputFormat}
use Rattle.ndef_cli_make.specs.declared.making.OutputFormat.TheVariants.{Digits, DigitsForTerminal, Number, Octets}
use Rattle.ndef_cli_make.specs.declared.making.Writing.{Writing}
use Rattle.ndef_cli_make.specs.declared.size_check.SizeCheck.{SizeCheck}
use Rattle.ndef_cli_make.specs.declared.size_check.SizeCheck.TheVariants.{Count}
use Rattle.ndef_cli_make.specs.declared.usage_error.UsageError.TheVariants as usage_error
use Rattle.ndef_cli_make.specs.declared.options.Subject.{Subject}
use Rattle.ndef_cli_make.specs.declared.options.Subject.TheVariants as subject

-- ---- the records

-- the result for the options of a subject, with a payload
abbrev pub MakesBy : Option Subject → List Row → (payload : List ℕ) → Answer → Type 0
MakesBy None rows payload answer = answer ≡ Err (Usage usage_error.Words)
MakesBy (Some subject.Text) rows payload answer =
    MakesNamed (first_of (codes "id") rows) (MakesSaid usage_error.Words MakesText (text_said rows)) answer
MakesBy (Some subject.Uri) rows payload answer =
    MakesNamed (first_of (codes "id") rows) (MakesSaid usage_error.Words MakesUri (uri_said rows)) answer
MakesBy (Some subject.Poster) rows payload answer =
    MakesNamed (first_of (codes "id") rows) (MakesPosterRecord rows payload) answer
MakesBy (Some subject.Handover) rows payload answer =
    MakesNamed (first_of (codes "id") rows) (MakesHandoverSaid rows) answer
MakesBy (Some subject.Record) rows payload answer =
    MakesSaid usage_error.Tnf MakesItem (item_said rows payload) answer
MakesBy (Some subject.Media) rows payload answer =
    MakesSaid usage_error.MediaType MakesItem (media_said rows payload) answer
MakesBy (Some subject.External) rows payload answer =
    MakesSaid usage_error.ExternalType MakesItem (external_said rows payload) answer
MakesBy (Some subject.App) rows payload answer = MakesSaid usage_error.Package MakesItem (app_said rows) answer
MakesBy (Some subject.Carrier) rows payload answer =
    MakesSaid usage_error.Format (MakesCarrier (id_said rows)) (carrier_said rows payload) answer

-- the result for a part, with its payload: a record whose payload is one of its type, or isn't
-- checked
abbrev pub Makes : AskedPart → (payload : List ℕ) → Answer → Type 0
Makes part payload answer =
    MakesIf (is_unchecked part) (MakesBy (subject_named part.0) part.1 payload) answer

-- the same with the result of reading its payload
abbrev pub MakesWith : AskedPart → Result (List ℕ) Fault → Answer → Type 0
MakesWith part (Ok payload) answer = Makes part payload answer
MakesWith part (Err fault) answer = answer ≡ Err fault

-- the result for a part, whose payload is read
abbrev pub MakesFrom : {I : Type 0} → GivesInput I → AskedPart → (before after : I) → Answer → Type 0
MakesFrom gives part before after answer = (payload : Result (List ℕ) Fault)
    × ReadsFor gives part before after payload × MakesWith part payload answer

-- the result for each in order, and the rest of the inputs
abbrev pub AreMadeIn : {I X Y : Type 0} → (X → I → I → Result Y Fault → Type 0) → List X
    → (before after : I) → List Y → Type 0
AreMadeIn makes [] before after [] = after ≡ before
AreMadeIn {I} makes (x ∷ xs) before after (y ∷ ys) =
    (middle : I) × makes x before middle (Ok y) × AreMadeIn makes xs middle after ys
AreMadeIn makes _ before after _ = ⊥

-- the first of which nothing is made, its number, and why; memory runs out only for one that isn't
-- refused
abbrev pub FailsIn : {I X Y : Type 0} → (X → I → I → Result Y Fault → Type 0) → List X
    → (before after : I) → Fault → Type 0
FailsIn {I} {X} {Y} makes xs before after fault =
    (done : List X) × (made : List Y) × (middle : I) × (x : X) × (rest : List X)
    × (xs ≡ done ++ x ∷ rest) × AreMadeIn makes done before middle made × (why : Fault)
    × IsUnmade (makes x middle after) why × (fault ≡ fault_at (length done + 1) why)

-- -- the output

-- how the bytes are written by the flags, to a terminal or not
abbrev pub shown_by : (terminal : Bool) → Flags → OutputFormat
shown_by terminal flags = if flags.hex then Digits
    else (if terminal && not flags.raw then DigitsForTerminal else Octets)

-- the number of bytes, if that is requested
abbrev pub output_format_of : SizeCheck → OutputFormat → OutputFormat
output_format_of Count shown = Number
output_format_of _ shown = shown

-- bytes as they are, as a line of hexadecimal digits, or as their number
abbrev pub written_as : OutputFormat → List ℕ → Text
written_as Octets bytes = bytes
written_as Digits bytes = hexadecimal_line bytes
written_as DigitsForTerminal bytes = hexadecimal_line bytes
written_as Number bytes = decimal (length bytes) ++ codes "\n"

-- NDEF 1.0, messages: the canonical spelling of the records, of which there are at most 65535, where
-- it fits in the tag
abbrev pub MakesMessage : SizeCheck → OutputFormat → List Item → Result Written Fault → Type 0
MakesMessage size_check shown items (Ok made) =
    AreItems items × (made.text ≡ written_as shown (canonical items))
    × (made.shown ≡ shown) × (size_mismatch size_check (length (canonical items)) ≡ None)
MakesMessage size_check shown items (Err (Refused TooManyRecords)) = 65535 < length items
MakesMessage size_check shown items (Err (Refused (NoRoom n room))) = (length items ≤ 65535)
    × (size_mismatch size_check (length (canonical items)) ≡ Some (n, room))
MakesMessage size_check shown items (Err Memory) = (length items ≤ 65535)
    × (size_mismatch size_check (length (canonical items)) ≡ None)
MakesMessage size_check shown items (Err _) = ⊥

-- the same of a message
abbrev pub WritesMessage : SizeCheck → OutputFormat → List Item → Result Written Fault → Type 0
WritesMessage size_check shown items (Ok made) = (made.text ≡ written_as shown (canonical items))
    × (made.shown ≡ shown) × (size_mismatch size_check (length (canonical items)) ≡ None)
WritesMessage size_check shown items (Err (Refused (NoRoom n room))) =
    size_mismatch size_check (length (canonical items)) ≡ Some (n, room)
WritesMessage size_check shown items (Err Memory) =
    size_mismatch size_check (length (canonical items)) ≡ None
WritesMessage size_check shown items (Err _) = ⊥

-- Connection Handover 1.2, Carrier Data Reference: the message of the records, where each reference
-- has a record
abbrev pub MakesLinked : Option Text → SizeCheck → OutputFormat → List Item → Result Written Fault → Type 0
MakesLinked None size_check shown items answer = MakesMessage size_check shown items answer
MakesLinked (Some reference) size_check shown items (Err (Refused (NoRecord reported))) =
    reported ≡ reference
MakesLinked (Some reference) size_check shown items (Err (Refused PartTooLong)) =
    256 ≤ length reference
MakesLinked (Some reference) size_check shown items (Err Memory) = IsLongName reference
MakesLinked (Some reference) size_check shown items _ = ⊥

-- how the message is written after the edits
abbrev pub shown_in : Writing → List (Edit AskedPart) → OutputFormat
shown_in writing edits = output_format_of writing.size_check (shown_by writing.terminal (flags_in edits))

-- the output for the records after the edits
abbrev pub MakesAll : List (Edit AskedPart) → Writing → List Item → Result Written Fault → Type 0
MakesAll edits writing items answer = MakesLinked (missing_reference (records_in edits) items)
    writing.size_check (shown_in writing edits) items answer
