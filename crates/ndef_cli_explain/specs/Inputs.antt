-- The bytes of an input.
use Rattle.std.specs.Prelude.{◌≡◌, ◌<◌, ℕ, Bool, true, false, ⊤, List, Result, Ok, Err, length}
use Rattle.ndef_message.specs.declared.input.InputError.{InputError}
use Rattle.ndef_cli.specs.Outcomes.{input_outcome}
use Rattle.ndef_cli.specs.Outcomes.{FitsPlace}
use Rattle.ndef_cli.specs.Quoting.{Text}
use Rattle.ndef_cli.specs.declared.outcome.HexFault.TheVariants as digits
use Rattle.ndef_cli.specs.declared.outcome.Outcome.TheVariants as outcomes
use Rattle.ndef_diagnostics.specs.Dumps.{dump_of}
use Rattle.ndef_diagnostics.specs.declared.dump.DumpFault.{DumpFault}
use Rattle.ndef_diagnostics.specs.declared.dump.DumpFault.TheVariants as faults
use Rattle.ndef_cli_explain.specs.declared.inputs.Unread.{Unread}
use Rattle.ndef_cli_explain.specs.declared.inputs.Unread.TheVariants.{Ends, NoPlace, Repeated, Words}

-- why there are no bytes, by the fault of a text
abbrev pub unread_of : DumpFault → Unread
unread_of faults.Odd = Ends (outcomes.Hex digits.Odd)
unread_of (faults.BadDigit place) = Ends (outcomes.Hex (digits.BadDigit place))
unread_of (faults.NoPlace line) = NoPlace line
unread_of (faults.Repeated line) = Repeated line
unread_of faults.TooLong = Ends outcomes.TooLong
unread_of faults.Words = Words

-- the bytes that a text spells, or its fault; or that there was no memory for these bytes
abbrev pub StandsFor : (text : Text) → Result (List ℕ) Unread → Type 0
StandsFor text (Ok bytes) = dump_of text ≡ Ok bytes
StandsFor text (Err (Ends outcomes.Memory)) = (bytes : List ℕ) × (dump_of text ≡ Ok bytes) × (0 < length bytes)
StandsFor text (Err unread) = (fault : DumpFault) × (dump_of text ≡ Err fault) × (unread ≡ unread_of fault)

-- the bytes that were read, or those that they spell as a text; or why there are none
abbrev pub AreInputOctets : (hex : Bool) → (read : Result (List ℕ) InputError) → Result (List ℕ) Unread → Type 0
AreInputOctets hex (Err error) octets = octets ≡ Err (Ends (input_outcome error))
AreInputOctets false (Ok bytes) octets = octets ≡ Ok bytes
AreInputOctets true (Ok text) octets = StandsFor text octets

-- the place of an ending can be counted
abbrev pub FitsUnread : Unread → Type 0
FitsUnread (Ends outcome) = FitsPlace 0 outcome
FitsUnread unread = ⊤
