-- The program: a function of the choices of the words and the bytes of the input.
use Rattle.std.specs.Prelude.{◌≡◌, ◌⊎◌, Bool, true, List, [], Result, Ok, Err}
use Rattle.std.specs.Io.KnownBytes.{Keeps}
use Rattle.ndef_message.specs.States.{SourceState}
use Rattle.ndef_message.specs.declared.message_reading.Read.{Read}
use Rattle.ndef_cli.specs.Statuses.{status_after}
use Rattle.ndef_tool.specs.Chosen.{Chooses}
use Rattle.ndef_tool.specs.Output.{IsOutput, ndef_usage}
use Rattle.ndef_cli.specs.Outcomes.{status_of}
use Rattle.ndef_cli.specs.Quoting.{Text}
use Rattle.ndef_tool.specs.Inputs.{ReadsIn}
use Rattle.ndef_cli.specs.Outputs.{GoesOut}
use Rattle.ndef_tool.specs.Streams.{Streams}
use Rattle.ndef_tool.specs.declared.choice.Choice.{Choice}
use Rattle.ndef_cli.specs.declared.args_error.ArgsError.{ArgsError}
use Rattle.ndef_cli.specs.declared.args_error.ArgsError.TheVariants.{Usage, NoMemory}
use Rattle.ndef_cli.specs.declared.outcome.Outcome.{Outcome}
use Rattle.ndef_cli.specs.declared.status.Status.{Status}
use Rattle.ndef_cli.specs.declared.status.Status.TheVariants as status

-- the text and the status for the words and the input; nothing is taken of the input where the
-- words choose nothing
abbrev pub Prints : Result Choice ArgsError → (before after : SourceState) → (sink_failed : Bool)
    → Text → Status
    → Type 0
Prints (Ok choice) before after sink_failed text st = (reads : List Read) × (outcome : Outcome)
    × ReadsIn choice.hex choice before after sink_failed reads outcome
    × IsOutput choice reads outcome text × (st ≡ status_of outcome)
Prints (Err Usage) before after sink_failed text st =
    (after ≡ before) × (text ≡ ndef_usage) × (st ≡ status.Usage)
Prints (Err NoMemory) before after sink_failed text st =
    (after ≡ before) × (text ≡ []) × (st ≡ status.Fault)

-- the text goes out, or a front of it before the sink fails
abbrev pub RunsNdef : List Text → (before after : Streams) → Status → Type 0
RunsNdef words before after result = (chosen : Result Choice ArgsError) × Chooses words chosen
    × ((text : Text) × (st : Status)
    × Prints chosen before.source after.source after.output.failed text st
    × GoesOut before.output.written after.output.written after.output.failed text
    × (result ≡ status_after after.output.failed st))

-- Into a sink that has failed before nothing goes out: the status is Fault, or that of a text of no
-- bytes.
abbrev pub IsSilent : List Text → (before after : Streams) → Status → Type 0
IsSilent words before after result =
    Keeps before.output.written after.output.written × (after.output.failed ≡ true)
    × ((result ≡ status.Fault)
    ⊎ ((chosen : Result Choice ArgsError) × Chooses words chosen
    × Prints chosen before.source after.source after.output.failed [] result))
