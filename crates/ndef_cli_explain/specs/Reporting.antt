-- The text of an input, and what of it goes out.
use Rattle.std.specs.Prelude.{◌≡◌, ◌<◌, ◌⊎◌, ◌&&◌, ◌-◌, not, ℕ, Bool, true, false, List, [], ◌++◌, length, codes, decimal, Option, Some, None, Result, Ok, Err}
use Rattle.ndef_format.specs.Limits.{LimitValues}
use Rattle.ndef_format.specs.Messages.{run_record}
use Rattle.ndef_format.specs.Records.{Run}
use Rattle.ndef_message.specs.States.{SinkState}
use Rattle.ndef_message.specs.declared.input.InputError.{InputError}
use Rattle.ndef_message.specs.declared.sending.WriteFault.{WriteFault}
use Rattle.ndef_cli.specs.Outcomes.{outcome_text, status_of}
use Rattle.ndef_cli.specs.Quoting.{Text, quoted}
use Rattle.ndef_cli.specs.Outputs.{Sends}
use Rattle.ndef_cli.specs.declared.outcome.Outcome.{Outcome}
use Rattle.ndef_cli.specs.declared.outcome.Outcome.TheVariants as outcomes
use Rattle.ndef_cli.specs.declared.status.Status.{Status}
use Rattle.ndef_cli.specs.declared.status.Status.TheVariants as status
use Rattle.ndef_cli_explain.specs.Coloring.{shown_in}
use Rattle.ndef_cli_explain.specs.Explained.{IsExplained}
use Rattle.ndef_cli_explain.specs.Explaining.{AreFirstTexts, Explains}
use Rattle.ndef_cli_explain.specs.Faults.{unread_object}
use Rattle.ndef_cli_explain.specs.Forms.{Form, LookValues, form_in, lines, objects, paints}
use Rattle.ndef_cli_explain.specs.Inputs.{AreInputOctets}
use Rattle.ndef_cli_explain.specs.Numbered.{IsRecordAt}
use Rattle.ndef_cli_explain.specs.Outputs.{json_line}
use Rattle.ndef_cli_explain.specs.Shell.{Origin, file_named}
use Rattle.ndef_cli_explain.specs.declared.choice.Wanted.{Wanted}
use Rattle.ndef_cli_explain.specs.declared.choice.Wanted.TheVariants as wanted
use Rattle.ndef_cli_explain.specs.declared.explaining.ExplainedMessages.{ExplainedMessages}
use Rattle.ndef_cli_explain.specs.declared.explaining.Stop.{Stop}
use Rattle.ndef_cli_explain.specs.declared.explaining.Stop.TheVariants.{End, Refused}
use Rattle.ndef_cli_explain.specs.declared.inputs.Unread.{Unread}
use Rattle.ndef_cli_explain.specs.declared.inputs.Unread.TheVariants.{Ends, NoPlace, Repeated, Words}
use Rattle.ndef_cli_explain.specs.declared.raw.RawInput.{RawInput}
use Rattle.ndef_cli_explain.specs.declared.reporting.ReportOptions.{ReportOptions}
use Rattle.ndef_cli_explain.specs.declared.sending.Cut.{Cut}
use Rattle.ndef_cli_explain.specs.declared.sending.Cut.TheVariants.{Memory, Writing}
use Rattle.ndef_cli_explain.specs.declared.sending.TheConstants.{MEMORY_LINE, MEMORY_OBJECT}

-- ---- the text of an input

-- the status where messages stop
abbrev pub stop_status : Stop → Status
stop_status End = status.Clean
stop_status (Refused refusal) = status.Refused

-- the line of an input that is named, where they are
abbrev pub heading : (named : Bool) → (name : Text) → Text
heading true name = codes "file " ++ quoted name ++ codes "\n"
heading false name = []

-- the line for a line of a dump that is at fault, with its end
abbrev pub dump_line : (fault : Text) → (line : ℕ) → (end : Text) → Text
dump_line fault line end = fault ++ decimal line ++ end

-- the line of an ending: any input may be too long, not hexadecimal text alone
abbrev pub outcome_line : Outcome → Text
outcome_line outcomes.TooLong = codes "fault: input too long\n"
outcome_line outcome = outcome_text 0 outcome

-- the line of a fault
abbrev pub fault_line : Unread → Text
fault_line (Ends outcome) = outcome_line outcome
fault_line (NoPlace line) = dump_line (codes "hex: no place and colon in line ") line (codes "\n")
fault_line (Repeated line) = dump_line (codes "hex: no line to repeat in line ") line (codes ": use od -v\n")
fault_line Words = codes "hex: words, not bytes: use hexdump -C or od -tx1\n"

-- the line of a fault, or its object
abbrev pub unread_text : Form → Unread → Text
unread_text (lines shown) unread = fault_line unread
unread_text (objects file) unread = json_line (unread_object file unread)

-- the status of a fault
abbrev pub unread_status : Unread → Status
unread_status (Ends outcome) = status_of outcome
unread_status (NoPlace line) = status.Refused
unread_status (Repeated line) = status.Refused
unread_status Words = status.Refused

-- the origin of an input of this name
abbrev pub origin_in : ReportOptions → (name : Text) → Origin
origin_in options name = record {
  file = file_named name;
  hex = options.hex;
  limits = options.limits;
}

-- how an input of this name is explained
abbrev pub look_at : ReportOptions → (name : Text) → LookValues
look_at options name = record {
  form = form_in options.json options.shown options.named name;
  in_color = paints options.json options.in_color;
  origin = origin_in options name;
}

-- the line of the name, in colour or not, where lines name their input
abbrev pub heading_text : ReportOptions → (name : Text) → Text
heading_text options name =
    shown_in (paints options.json options.in_color) (heading (not options.json && options.named) name)

-- the output for the bytes of an input, and the status; or for the fault, if there are none
abbrev pub IsInputBody : LookValues → (octets : Result (List ℕ) Unread) → Text → Status → Type 0
IsInputBody look (Ok octets) text st = (stop : Stop) × IsExplained look octets stop text × (st ≡ stop_status stop)
IsInputBody look (Err unread) text st =
    (text ≡ shown_in look.in_color (unread_text look.form unread)) × (st ≡ unread_status unread)

-- the output for some of the first messages
abbrev pub AreTextsOfFirst : LookValues → (input : List ℕ) → Text → Type 0
AreTextsOfFirst look input text = (number : ℕ) × (at : ℕ) × AreFirstTexts look input number at text

-- the output for the first messages of the bytes of an input; none where there are no bytes
abbrev pub IsFirstBody : LookValues → (octets : Result (List ℕ) Unread) → Text → Type 0
IsFirstBody look (Ok octets) text = AreTextsOfFirst look octets text
IsFirstBody look (Err unread) text = text ≡ []

-- the same, or all of it
abbrev pub IsAnyBody : LookValues → (octets : Result (List ℕ) Unread) → Text → Type 0
IsAnyBody look octets text = IsFirstBody look octets text ⊎ ((st : Status) × IsInputBody look octets text st)

-- the explanation of the bytes of an input of this name, and the status
abbrev pub IsExplanation : ReportOptions → (name : Text) → (octets : Result (List ℕ) Unread) → Text → Status → Type 0
IsExplanation options name octets text st =
    (body : Text) × IsInputBody (look_at options name) octets body st × (text ≡ heading_text options name ++ body)

-- a front of it: nothing, or the line of the name and the output for the first messages
abbrev pub IsFirstExplanation : ReportOptions → (name : Text) → (octets : Result (List ℕ) Unread) → Text → Type 0
IsFirstExplanation options name octets text =
    (text ≡ [])
    ⊎ ((body : Text) × IsFirstBody (look_at options name) octets body × (text ≡ heading_text options name ++ body))

-- the same, or all of it
abbrev pub IsAnyExplanation : ReportOptions → (name : Text) → (octets : Result (List ℕ) Unread) → Text → Type 0
IsAnyExplanation options name octets text =
    IsFirstExplanation options name octets text ⊎ ((st : Status) × IsExplanation options name octets text st)

-- the bytes of an input as they are, and the status; nothing, if there are none
abbrev pub AreRawOctets : (octets : Result (List ℕ) Unread) → Text → Status → Type 0
AreRawOctets (Ok octets) text st = (text ≡ octets) × (st ≡ status.Clean)
AreRawOctets (Err unread) text st = (text ≡ []) × (st ≡ unread_status unread)

-- NDEF 1.0, chunked payloads: the payload of a record as it is, its chunks joined, and the status; nothing, if there is
-- no such record
abbrev pub IsPayloadOf : Option Run → Text → Status → Type 0
IsPayloadOf None text st = (text ≡ []) × (st ≡ status.Refused)
IsPayloadOf (Some run) text st = (text ≡ (run_record run).payload) × (st ≡ status.Clean)

-- the same of the record of this number, from 1 over all messages of an input; nothing, if there are no bytes
abbrev pub IsRawPayload : LimitValues → (number : ℕ) → (octets : Result (List ℕ) Unread) → Text → Status → Type 0
IsRawPayload limits number (Ok octets) text st =
    (found : Option Run) × IsRecordAt limits (number - 1) octets found × IsPayloadOf found text st
IsRawPayload limits number (Err unread) text st = (text ≡ []) × (st ≡ unread_status unread)

-- what is wanted of the bytes of an input
abbrev pub IsWanted : Wanted → ReportOptions → (name : Text) → (octets : Result (List ℕ) Unread) → Text → Status
    → Type 0
IsWanted wanted.Explanation options name octets text st = IsExplanation options name octets text st
IsWanted wanted.Octets options name octets text st = AreRawOctets octets text st
IsWanted (wanted.Payload number) options name octets text st = IsRawPayload options.limits number octets text st

-- a front of it, before memory runs out: of bytes that are written as they are, nothing
abbrev pub IsFirstWanted : Wanted → ReportOptions → (name : Text) → (octets : Result (List ℕ) Unread) → Text → Type 0
IsFirstWanted wanted.Explanation options name octets text = IsFirstExplanation options name octets text
IsFirstWanted other options name octets text = text ≡ []

-- all that is printed of an input of this name, of which this was read, and its status
abbrev pub IsReported : ReportOptions → (name : Text) → (read : Result (List ℕ) InputError) → Text → Status → Type 0
IsReported options name read text st =
    (octets : Result (List ℕ) Unread) × AreInputOctets options.hex read octets
    × IsWanted options.wanted options name octets text st

-- a front of it, before memory runs out
abbrev pub IsFirstReported : ReportOptions → (name : Text) → (read : Result (List ℕ) InputError) → Text → Type 0
IsFirstReported options name read text =
    (octets : Result (List ℕ) Unread) × AreInputOctets options.hex read octets
    × IsFirstWanted options.wanted options name octets text

-- the same, or all of it
abbrev pub IsAnyReported : ReportOptions → (name : Text) → (read : Result (List ℕ) InputError) → Text → Type 0
IsAnyReported options name read text =
    IsFirstReported options name read text ⊎ ((st : Status) × IsReported options name read text st)

-- the line or the object for a lack of memory
abbrev pub memory_line : (json : Bool) → Text
memory_line false = MEMORY_LINE.now
memory_line true = MEMORY_OBJECT.now

-- the output if memory runs out: nothing among bytes that are written as they are
abbrev pub memory_text : Wanted → (json : Bool) → Text
memory_text wanted.Explanation json = memory_line json
memory_text other json = []

-- all of it; or a front of it and that memory ran out
abbrev pub IsReportedInMemory : ReportOptions → (name : Text) → (read : Result (List ℕ) InputError) → Text → Status
    → Type 0
IsReportedInMemory options name read text st =
    IsReported options name read text st
    ⊎ ((front : Text) × IsFirstReported options name read front
    × (text ≡ front ++ memory_text options.wanted options.json) × (st ≡ status.Fault))

-- all of it or a front of it; or a front of it and that memory ran out
abbrev pub MayGoOut : ReportOptions → (name : Text) → (read : Result (List ℕ) InputError) → Text → Type 0
MayGoOut options name read text =
    IsAnyReported options name read text ⊎ ((st : Status) × IsReportedInMemory options name read text st)

-- ---- what goes out

-- a text goes out whole, to a sink that hadn't failed before, or there was nothing to write
abbrev pub GoesOutWhole : Text → (before after : SinkState) → Type 0
GoesOutWhole text before after =
    Sends text before after × (after.failed ≡ before.failed) × (0 < length text → before.failed ≡ false)

-- writing a text fails
abbrev pub FailsToGoOut : Text → (before after : SinkState) → Type 0
FailsToGoOut text before after = Sends text before after × (after.failed ≡ true)

-- a text is sent, and this is the status; or writing fails
abbrev pub SendsOut : Text → Status → (before after : SinkState) → Result Status WriteFault → Type 0
SendsOut text st before after (Ok reported) = GoesOutWhole text before after × (reported ≡ st)
SendsOut text st before after (Err fault) = FailsToGoOut text before after

-- a text is sent after any other that came to a result, unless that failed
abbrev pub SendsNext : Result Status WriteFault → Text → (before after : SinkState) → Result Status WriteFault → Type 0
SendsNext sent text before after result =
    (earlier : Text) (start : SinkState) → SendsOut earlier status.Clean start before sent
    → SendsOut (earlier ++ text) status.Clean start after result

-- bytes go out as they are, and this is the status; or writing fails
abbrev pub SendsRaw : RawInput → (before after : SinkState) → Result Status Cut → Type 0
SendsRaw raw before after (Ok st) = GoesOutWhole raw.text before after × (st ≡ raw.status)
SendsRaw raw before after (Err Memory) = ⊥
SendsRaw raw before after (Err (Writing fault)) = FailsToGoOut raw.text before after

-- a text of this kind goes out, in colour or not; or memory runs out before; or writing it fails
abbrev pub SendsShown : (in_color : Bool) → (IsText : Text → Type 0) → (before after : SinkState)
    → Result Status Cut → Type 0
SendsShown in_color IsText before after (Ok st) =
    (text : Text) × IsText text × GoesOutWhole (shown_in in_color text) before after
SendsShown in_color IsText before after (Err Memory) = after ≡ before
SendsShown in_color IsText before after (Err (Writing fault)) =
    (text : Text) × IsText text × FailsToGoOut (shown_in in_color text) before after

-- a text of one kind has gone out before memory runs out; or writing one of the other kind fails
abbrev pub StopsShort : (IsFirst IsAny : Text → Type 0) → (before after : SinkState) → Cut → Type 0
StopsShort IsFirst IsAny before after Memory = (text : Text) × IsFirst text × GoesOutWhole text before after
StopsShort IsFirst IsAny before after (Writing fault) = (text : Text) × IsAny text × FailsToGoOut text before after

-- the output for the messages goes out, up to where they stop; or for some of the first
abbrev pub SendsMessages : LookValues → (input : List ℕ) → (before after : SinkState)
    → Result ExplainedMessages Cut → Type 0
SendsMessages look input before after (Ok progress) =
    (text : Text) × Explains look input text progress × GoesOutWhole text before after
SendsMessages look input before after (Err cut) =
    StopsShort (AreTextsOfFirst look input) (AreTextsOfFirst look input) before after cut

-- the output for the bytes of an input goes out, and this is the status; or some of it
abbrev pub SendsBody : LookValues → (octets : Result (List ℕ) Unread) → (before after : SinkState)
    → Result Status Cut → Type 0
SendsBody look octets before after (Ok st) =
    (text : Text) × IsInputBody look octets text st × GoesOutWhole text before after
SendsBody look octets before after (Err cut) =
    StopsShort (IsFirstBody look octets) (IsAnyBody look octets) before after cut

-- the explanation of the bytes of an input goes out, and this is the status; or some of it
abbrev pub SendsExplanation : ReportOptions → (name : Text) → (octets : Result (List ℕ) Unread)
    → (before after : SinkState) → Result Status Cut → Type 0
SendsExplanation options name octets before after (Ok st) =
    (text : Text) × IsExplanation options name octets text st × GoesOutWhole text before after
SendsExplanation options name octets before after (Err cut) =
    StopsShort (IsFirstExplanation options name octets) (IsAnyExplanation options name octets) before after cut

-- all that is printed of an input goes out, and this is its status; or some of it
abbrev pub SendsInput : ReportOptions → (name : Text) → (read : Result (List ℕ) InputError) → (before after : SinkState)
    → Result Status Cut → Type 0
SendsInput options name read before after (Ok st) =
    (text : Text) × IsReported options name read text st × GoesOutWhole text before after
SendsInput options name read before after (Err cut) =
    StopsShort (IsFirstReported options name read) (IsAnyReported options name read) before after cut

-- the same, and that memory runs out is said; or writing fails
abbrev pub TellsNext : ReportOptions → (name : Text) → (read : Result (List ℕ) InputError) → (before after : SinkState)
    → Result Status WriteFault → Type 0
TellsNext options name read before after (Ok st) =
    (text : Text) × IsReportedInMemory options name read text st × GoesOutWhole text before after
TellsNext options name read before after (Err fault) =
    (text : Text) × MayGoOut options name read text × FailsToGoOut text before after
