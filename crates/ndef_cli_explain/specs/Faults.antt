-- The objects of inputs of which there are no bytes.
use Rattle.std.specs.Prelude.{ℕ, [], ◌∷◌, ◌++◌, Option, codes}
use Rattle.ndef_cli.specs.Quoting.{Text}
use Rattle.ndef_cli.specs.declared.outcome.Outcome.{Outcome}
use Rattle.ndef_cli.specs.declared.outcome.Outcome.TheVariants as outcomes
use Rattle.ndef_cli.specs.declared.outcome.HexFault.{HexFault}
use Rattle.ndef_cli.specs.declared.outcome.HexFault.TheVariants.{BadDigit, Odd}
use Rattle.serde_json.specs.Data.{Data, string}
use Rattle.ndef_cli_explain.specs.Messages.{file_pairs}
use Rattle.ndef_cli_explain.specs.Outputs.{number_value, object_of}
use Rattle.ndef_cli_explain.specs.declared.inputs.Unread.{Unread}
use Rattle.ndef_cli_explain.specs.declared.inputs.Unread.TheVariants.{Ends, NoPlace, Repeated, Words}

-- an input of which there are no bytes: why, and its name
abbrev pub named_fault : Option Text → (fault : Text) → Data
named_fault file fault = object_of ((codes "fault", string fault) ∷ file_pairs file)

-- the same where this digit isn't one
abbrev pub digit_fault : Option Text → (digit : ℕ) → Data
digit_fault file digit =
    object_of ((codes "digit", number_value digit) ∷ (codes "fault", string (codes "bad digit")) ∷ file_pairs file)

-- the same of a fault of hexadecimal digits
abbrev pub hex_object : Option Text → HexFault → Data
hex_object file (BadDigit digit) = digit_fault file digit
hex_object file Odd = named_fault file (codes "odd number of digits")

-- the same if this line of a dump is at fault
abbrev pub line_fault : Option Text → (fault : Text) → (line : ℕ) → Data
line_fault file fault line =
    object_of ((codes "fault", string fault) ∷ (file_pairs file ++ (codes "line", number_value line) ∷ []))

-- the object for an ending; reading ends neither cleanly nor by a refusal, nor with too many messages, nor by writing
abbrev pub fault_object : Option Text → Outcome → Data
fault_object file (outcomes.Hex fault) = hex_object file fault
fault_object file outcomes.Reading = named_fault file (codes "reading")
fault_object file outcomes.TooLong = named_fault file (codes "input too long")
fault_object file outcomes.Memory = named_fault file (codes "memory")
fault_object file outcomes.Clean = named_fault file (codes "none")
fault_object file (outcomes.Refused refusal) = named_fault file (codes "refused")
fault_object file outcomes.Writing = named_fault file (codes "writing")
fault_object file outcomes.TooMany = named_fault file (codes "more than 10000 messages")

-- the object for an input of which there are no bytes
abbrev pub unread_object : Option Text → Unread → Data
unread_object file (Ends outcome) = fault_object file outcome
unread_object file (NoPlace line) = line_fault file (codes "no place and colon") line
unread_object file (Repeated line) = line_fault file (codes "no line to repeat") line
unread_object file Words = named_fault file (codes "words, not bytes")
