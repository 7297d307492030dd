-- Hexadecimal text, and the bytes that it denotes.
use Rattle.std.specs.Prelude.{◌≡◌, ◌<◌, ◌⊎◌, ◌==◌, ◌||◌, not, ℕ, Bool, List, length, Result, Ok, Err}
use Rattle.std.specs.List.{filter}
use Rattle.hex.specs.Hex.{decode_of}
use Rattle.hex.specs.declared.error.FromHexError.{FromHexError}
use Rattle.ndef_message.specs.Inputs.{IsWholeInput}
use Rattle.ndef_message.specs.Sources.{SourceState}
use Rattle.ndef_message.specs.declared.input.InputError.{InputError}
use Rattle.ndef_message.specs.declared.input.InputError.TheVariants as errors
use Rattle.ndef_cli.specs.Outcomes.{fault_of, input_outcome}
use Rattle.ndef_cli.specs.declared.outcome.Outcome.{Outcome}
use Rattle.ndef_cli.specs.declared.outcome.Outcome.TheVariants.{Hex, Memory}

-- ASCII space, tab, CR and LF
abbrev pub is_space : ℕ → Bool
is_space byte = byte == 32 || byte == 9 || byte == 13 || byte == 10

-- the text without white space
abbrev pub without_spaces : List ℕ → List ℕ
without_spaces text = filter (λ byte. not (is_space byte)) text

-- the text to come is read, at most 16777216 bytes of it
abbrev pub IsTextInput : (before after : SourceState) → Bool → Result (List ℕ) InputError → Type 0
IsTextInput = IsWholeInput 16777216

-- the bytes that digits denote, or the fault of the digits, or that there was no memory for
-- these bytes
abbrev pub AreDecoded : List ℕ → Result (List ℕ) Outcome → Type 0
AreDecoded digits (Ok bytes) = decode_of digits ≡ Ok bytes
AreDecoded digits (Err (Hex fault)) =
    (error : FromHexError) × (decode_of digits ≡ Err error) × (fault ≡ fault_of error)
AreDecoded digits (Err Memory) =
    (bytes : List ℕ) × (decode_of digits ≡ Ok bytes) × (0 < length bytes)
AreDecoded digits (Err _) = ⊥

-- the same of a text with white space
abbrev pub IsDecoded : List ℕ → Result (List ℕ) Outcome → Type 0
IsDecoded text = AreDecoded (without_spaces text)

-- the bytes that the text to come denotes, or why there are none: memory fails for the text, or
-- for its bytes
abbrev pub IsHexInput : (before after : SourceState) → Bool → Result (List ℕ) Outcome → Type 0
IsHexInput before after failed (Ok bytes) =
    (text : List ℕ) × IsTextInput before after failed (Ok text)
    × IsDecoded text (Ok bytes)
IsHexInput before after failed (Err (Hex fault)) =
    (text : List ℕ) × IsTextInput before after failed (Ok text)
    × IsDecoded text (Err (Hex fault))
IsHexInput before after failed (Err Memory) = IsTextInput before after failed (Err errors.NoMemory)
    ⊎ ((text : List ℕ) × IsTextInput before after failed (Ok text) × IsDecoded text (Err Memory))
IsHexInput before after failed (Err outcome) =
    (error : InputError) × IsTextInput before after failed (Err error)
    × (outcome ≡ input_outcome error)
