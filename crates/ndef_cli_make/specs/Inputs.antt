-- The payloads of parts: hexadecimal digits, or the bytes of inputs of a name.
use Rattle.std.specs.Prelude.{◌≡◌, ℕ, Bool, false, List, [], length, count_by, nat_le, Option, Some, None, Result, Ok, Err, codes, if◌then◌else◌}
use Rattle.std.specs.Option.{option_map_or}
use Rattle.std.specs.Str.{bytes_eq}
use Rattle.clap.specs.Words.{Row, Text, first_of}
use Rattle.ndef_message.specs.Inputs.{IsWholeInput}
use Rattle.ndef_message.specs.States.{SourceState}
use Rattle.ndef_message.specs.declared.input.InputError.{InputError}
use Rattle.ndef_cli.specs.Inputs.{GivesInput}
use Rattle.ndef_cli_make.specs.Asked.{AskedPart}
use Rattle.ndef_cli_make.specs.Faults.{input_fault}
use Rattle.ndef_cli_make.specs.Octets.{SaysOctets}
use Rattle.ndef_cli_make.specs.Options.{subject_named}
use Rattle.ndef_cli_make.specs.declared.fault.Fault.{Fault}
use Rattle.ndef_cli_make.specs.declared.fault.Fault.TheVariants.{Usage, TooLong}
use Rattle.ndef_cli_make.specs.declared.usage_error.UsageError.TheVariants as usage_error
use Rattle.ndef_cli_make.specs.declared.options.Subject.{Subject}
use Rattle.ndef_cli_make.specs.declared.options.Subject.TheVariants as subject

-- ---- one input

-- the whole input, where it has at most 1048576 bytes; of a longer one that many are taken, and no
-- more where something failed
abbrev pub IsInput : (before after : SourceState) → Result (List ℕ) InputError → Type 0
IsInput before after input = IsWholeInput 1048576 before after after.failed input

-- what was read as a payload, where it has at most 1048576 bytes
abbrev pub payload_of : Result (List ℕ) InputError → Result (List ℕ) Fault
payload_of (Ok bytes) = if nat_le (length bytes) 1048576 then Ok bytes else Err TooLong
payload_of (Err error) = Err (input_fault error)

-- the payload that the input of this name holds
abbrev pub ReadsNamed : {I : Type 0} → GivesInput I → Text → (before after : I)
    → Result (List ℕ) Fault → Type 0
ReadsNamed gives name before after payload =
    (read : Result (List ℕ) InputError) × gives before name read after × (payload ≡ payload_of read)

-- ---- the input of a part

-- a file that is named, and standard input without one; none where there are digits
abbrev pub file_or_digits : (file digits : Option Text) → Option Text
file_or_digits (Some name) digits = Some name
file_or_digits None (Some digits) = None
file_or_digits None None = Some (codes "-")

-- the name of the input that options say
abbrev pub payload_input : List Row → Option Text
payload_input rows = file_or_digits (first_of (codes "file") rows) (first_of (codes "payload") rows)

-- the name of the input that holds the payload of a subject, or the icon of a poster
abbrev pub input_for : Option Subject → List Row → Option Text
input_for (Some subject.Record) rows = payload_input rows
input_for (Some subject.Media) rows = payload_input rows
input_for (Some subject.External) rows = payload_input rows
input_for (Some subject.Carrier) rows = payload_input rows
input_for (Some subject.Poster) rows = first_of (codes "icon") rows
input_for _ rows = None

-- the same of a part
abbrev pub input_of : AskedPart → Option Text
input_of part = input_for (subject_named part.0) part.1

-- whether the input of this name is standard input
abbrev pub is_standard_input : Option Text → Bool
is_standard_input name = option_map_or (λ name. bytes_eq name (codes "-")) name false

-- whether the payload of a part is standard input
abbrev pub is_reader : AskedPart → Bool
is_reader part = is_standard_input (input_of part)

-- the number of parts whose payload is standard input
abbrev pub readers_of : List AskedPart → ℕ
readers_of = count_by is_reader

-- ---- the payload of a part

-- the bytes that digits denote, or those of an input; both can't be given, and without either the payload
-- is empty
abbrev pub ReadsOf : {I : Type 0} → GivesInput I → (digits name : Option Text) → (before after : I)
    → Result (List ℕ) Fault → Type 0
ReadsOf gives (Some digits) (Some name) before after payload =
    (after ≡ before) × (payload ≡ Err (Usage usage_error.TwoPayloads))
ReadsOf gives (Some digits) None before after payload =
    (after ≡ before) × SaysOctets usage_error.Digits digits payload
ReadsOf gives None (Some name) before after payload = ReadsNamed gives name before after payload
ReadsOf gives None None before after payload = (after ≡ before) × (payload ≡ Ok [])

-- the payload of a part
abbrev pub ReadsFor : {I : Type 0} → GivesInput I → AskedPart → (before after : I)
    → Result (List ℕ) Fault → Type 0
ReadsFor gives part before after payload =
    ReadsOf gives (first_of (codes "payload") part.1) (input_of part) before after payload
