-- A record of an input, by its number.
use Rattle.std.specs.Prelude.{◌≡◌, ◌≤◌, ℕ, List, length, Option, Some, None, slice_get}
use Rattle.std.specs.List.{flat_map}
use Rattle.ndef_format.specs.Limits.{LimitValues}
use Rattle.ndef_format.specs.Records.{Run}
use Rattle.ndef_fields.specs.declared.report.FieldReport.{FieldReport}
use Rattle.ndef_cli_explain.specs.Explaining.{AreReported, BeginsWith}
use Rattle.ndef_cli_explain.specs.declared.explaining.Stop.{Stop}

-- NDEF 1.0, messages: the records of messages, in order
abbrev pub records_of : List FieldReport → List Run
records_of messages = flat_map (λ reported. reported.items) messages

-- NDEF 1.0, messages: the record at this place, from 0, among those of the messages with which an input begins; none if
-- all its messages have fewer
abbrev pub IsRecordAt : LimitValues → (place : ℕ) → (input : List ℕ) → Option Run → Type 0
IsRecordAt limits place input (Some run) =
    (messages : List FieldReport) × BeginsWith limits messages input
    × (slice_get (records_of messages) place ≡ Some run)
IsRecordAt limits place input None =
    (messages : List FieldReport) × (stop : Stop) × AreReported limits messages input stop
    × (length (records_of messages) ≤ place)
