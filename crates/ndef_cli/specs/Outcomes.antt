-- The outcomes of a run, and the line of an outcome.
use Rattle.std.specs.Prelude.{◌+◌, ◌<◌, ◌^◌, ℕ, [], ◌++◌, codes, decimal, ⊤}
use Rattle.hex.specs.declared.error.FromHexError.{FromHexError}
use Rattle.hex.specs.declared.error.FromHexError.TheVariants.{InvalidHexCharacter}
use Rattle.ndef_format.specs.Reasons.{reason_number, reason_name}
use Rattle.ndef_format.specs.declared.reason.Reason.{Reason}
use Rattle.ndef_format.specs.declared.refusal.Refusal.{Refusal}
use Rattle.ndef_message.specs.declared.input.InputError.{InputError}
use Rattle.ndef_message.specs.declared.input.InputError.TheVariants as errors
use Rattle.ndef_cli.specs.Quoting.{Text}
use Rattle.ndef_cli.specs.declared.outcome.Outcome.{Outcome}
use Rattle.ndef_cli.specs.declared.outcome.Outcome.TheVariants.{Clean, Refused, Hex, Reading, Writing, Memory, TooMany, TooLong}
use Rattle.ndef_cli.specs.declared.outcome.HexFault.{HexFault}
use Rattle.ndef_cli.specs.declared.outcome.HexFault.TheVariants.{Odd, BadDigit}
use Rattle.ndef_cli.specs.declared.status.Status.{Status}
use Rattle.ndef_cli.specs.declared.status.Status.TheVariants as status

-- ---- faults

-- places count digits
abbrev pub fault_of : FromHexError → HexFault
fault_of (InvalidHexCharacter c place) = BadDigit place
fault_of _ = Odd

-- the ending where the text isn't read to its end
abbrev pub input_outcome : InputError → Outcome
input_outcome errors.ReadFault = Reading
input_outcome errors.TooLong = TooLong
input_outcome errors.NoMemory = Memory

-- ---- lines

-- where and why bytes are refused
abbrev pub refusal_text : ℕ → Reason → Text
refusal_text at reason = decimal at ++ codes ": " ++ decimal (reason_number reason) ++ codes " " ++ reason_name reason

-- the place counts after the bytes of the messages before
abbrev pub refusal_line : ℕ → Refusal → Text
refusal_line base r = codes "refused at " ++ refusal_text (base + r.at) r.reason ++ codes "\n"

-- for digits that aren't hexadecimal text
abbrev pub hex_line : HexFault → Text
hex_line Odd = codes "hex: odd number of digits\n"
hex_line (BadDigit place) = codes "hex: bad digit at " ++ decimal place ++ codes "\n"

-- the line of an ending, where it has one
abbrev pub outcome_text : ℕ → Outcome → Text
outcome_text base Clean = []
outcome_text base (Refused r) = refusal_line base r
outcome_text base (Hex fault) = hex_line fault
outcome_text base Reading = codes "fault: reading\n"
outcome_text base Writing = []
outcome_text base Memory = codes "fault: memory\n"
outcome_text base TooMany = codes "fault: more than 10000 messages\n"
outcome_text base TooLong = codes "fault: hexadecimal input too long\n"

-- the place of a refusal can be counted
abbrev pub FitsPlace : ℕ → Outcome → Type 0
FitsPlace base (Refused r) = base + r.at < 2 ^ 64
FitsPlace base _ = ⊤

-- the status of an ending
abbrev pub status_of : Outcome → Status
status_of Clean = status.Clean
status_of (Refused r) = status.Refused
status_of (Hex fault) = status.Refused
status_of _ = status.Fault
