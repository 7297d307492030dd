-- The messages of an input, which may be hexadecimal text.
use Rattle.std.specs.Prelude.{◌≡◌, ℕ, Bool, true, false, List, [], drop, Option, Some, Result, Ok, Err}
use Rattle.ndef_message.specs.States.{SourceState}
use Rattle.ndef_message.specs.declared.message_reading.Read.{Read}
use Rattle.ndef_tool.specs.Hexadecimal.{IsHexInput}
use Rattle.ndef_tool.specs.Output.{total_bytes}
use Rattle.ndef_tool.specs.Rules.{typed_rules}
use Rattle.ndef_tool.specs.Sessions.{Handles, IsSession, SessionHasTaken, Silences, TakesAfter}
use Rattle.ndef_tool.specs.Streams.{Streams}
use Rattle.ndef_tool.specs.declared.choice.Choice.{Choice}
use Rattle.ndef_cli.specs.declared.outcome.Outcome.{Outcome}
use Rattle.ndef_tool.specs.declared.session.Session.{Session}

-- what is read of bytes, and taken of those after the last message; or none, where there are no
-- bytes
abbrev pub ReadsBytes : Choice → (sink_failed : Bool) → Result (List ℕ) Outcome → List Read → Outcome
    → Type 0
ReadsBytes choice sink_failed (Ok bytes) reads outcome =
    (left : Option (List ℕ)) × IsSession choice (Some bytes) left false sink_failed reads outcome
    × (n : ℕ) × TakesAfter (typed_rules choice.limits) (Some (drop (total_bytes reads) bytes)) outcome n
ReadsBytes choice sink_failed (Err why) reads outcome = (reads ≡ []) × (outcome ≡ why)

-- the result of reading the bytes to come, and how many are taken; or of reading those that they denote
abbrev pub ReadsIn : (hex : Bool) → Choice → (before after : SourceState) → (sink_failed : Bool)
    → List Read → Outcome
    → Type 0
ReadsIn false choice before after sink_failed reads outcome =
    IsSession choice before.coming after.coming after.failed sink_failed reads outcome
    × SessionHasTaken (typed_rules choice.limits) (total_bytes reads) before.coming before.taken after.taken outcome
ReadsIn true choice before after sink_failed reads outcome = (input : Result (List ℕ) Outcome)
    × IsHexInput before after after.failed input
    × ReadsBytes choice sink_failed input reads outcome

-- the messages that were read, and their blocks
abbrev pub HandlesIn : (hex : Bool) → Choice → (before after : Streams) → Session → Type 0
HandlesIn hex choice before after session =
    Handles (ReadsIn hex choice before.source after.source after.output.failed)
    choice before.output after.output session

-- the same into a sink that has failed before, where nothing goes out
abbrev pub SilencesIn : (hex : Bool) → Choice → (before after : Streams) → Session → Type 0
SilencesIn hex choice before after session =
    Silences (ReadsIn hex choice before.source after.source after.output.failed)
    choice before.output after.output session
