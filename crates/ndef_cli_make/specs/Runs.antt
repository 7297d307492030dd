-- The program: a function of the request of the words and the bytes of the inputs.
use Rattle.std.specs.Prelude.{◌≡◌, Bool, List, Option, None, Some, Result, Ok, Err}
use Rattle.clap.specs.Words.{Text}
use Rattle.ndef_message.specs.States.{SinkState, sink_state}
use Rattle.ndef_message.specs.declared.sink.Sink.{Ghosts as SinkOf}
use Rattle.ndef_cli.specs.Outputs.{Prints, Sends}
use Rattle.ndef_cli_make.specs.Faults.{line_of, fault_status}
use Rattle.ndef_cli.specs.Inputs.{GivesInput}
use Rattle.ndef_cli_make.specs.Outcomes.{IsMadeOfWords}
use Rattle.ndef_cli_make.specs.Pages.{make_page_asked, ndef_make_page}
use Rattle.ndef_cli_make.specs.declared.fault.Fault.{Fault}
use Rattle.ndef_cli_make.specs.declared.pages.AskedPage.{AskedPage}
use Rattle.ndef_cli.specs.declared.status.Status.{Status}
use Rattle.ndef_cli.specs.declared.status.Status.TheVariants as status
use Rattle.ndef_cli_make.specs.declared.making.Written.{Written}
use Rattle.ndef_cli_make.specs.declared.making.OutputFormat.{OutputFormat}
use Rattle.ndef_cli_make.specs.declared.making.OutputFormat.TheVariants.{DigitsForTerminal}
use Rattle.ndef_cli_make.specs.declared.running.TheConstants.{NOTE}

-- -- the bytes that a run reads and writes

-- the inputs, the sink of the message or the page, and the sink of lines about them
pub record ThreeStreams (I : Type 0) : Type 0 where
  pub inputs : I
  pub output : SinkState
  pub lines : SinkState

-- what a contract sees of them
abbrev pub three_streams : {I K L : Type 0} (output : SinkOf K) (lines : SinkOf L) → I → K → L → ThreeStreams I
three_streams output lines inputs k l =
    record { inputs = inputs; output = sink_state output k; lines = sink_state lines l }

-- ---- a message

-- a note explains why digits are written to a terminal
abbrev pub Notes : OutputFormat → (before after : SinkState) → Type 0
Notes DigitsForTerminal before after = Sends NOTE.now before after
Notes _ before after = after ≡ before

-- the message goes out
abbrev pub TellsMade : {I : Type 0} → Written → (before after : ThreeStreams I) → Status → Type 0
TellsMade made before after result = Prints made.text status.Clean before.output after.output result
    × Notes made.shown before.lines after.lines

-- the message goes out, or the line of the fault to the other sink
abbrev pub TellsOutcome : {I : Type 0} → Result Written Fault → (before after : ThreeStreams I) → Status
    → Type 0
TellsOutcome (Ok made) before after result = TellsMade made before after result
TellsOutcome (Err fault) before after result = (after.output ≡ before.output)
    × Sends (line_of fault) before.lines after.lines × (result ≡ fault_status fault)

-- ---- a run

-- the outcome of the words and the inputs, if the words request records
abbrev pub RunsForRecords : {I : Type 0} → GivesInput I → List Text → (terminal : Bool)
    → (before after : ThreeStreams I) → Status → Type 0
RunsForRecords gives words terminal before after result = (made : Result Written Fault)
    × IsMadeOfWords gives words terminal before.inputs after.inputs made
    × TellsOutcome made before after result

-- a page goes out, and the inputs are left; or the request of the words is carried out
abbrev pub RunsPageOrRecords : {I : Type 0} → GivesInput I → Option AskedPage → List Text
    → (terminal : Bool) → (before after : ThreeStreams I) → Status → Type 0
RunsPageOrRecords gives (Some page) words terminal before after result =
    (after.inputs ≡ before.inputs)
    × Prints (ndef_make_page page) status.Clean before.output after.output result
    × (after.lines ≡ before.lines)
RunsPageOrRecords gives None words terminal before after result =
    RunsForRecords gives words terminal before after result

-- the outcome of the words and the inputs
abbrev pub RunsNdefMake : {I : Type 0} → GivesInput I → List Text → (terminal : Bool)
    → (before after : ThreeStreams I) → Status → Type 0
RunsNdefMake gives words terminal before after result =
    RunsPageOrRecords gives (make_page_asked words) words terminal before after result
