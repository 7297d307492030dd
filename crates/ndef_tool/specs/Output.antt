-- The output of a subcommand for the messages that were read and the ending: one text, as
-- a law of src/laws.rt states.
use Rattle.std.specs.Prelude.{◌≡◌, Bool, true, false, ◌+◌, ℕ, List, [], ◌∷◌, ◌++◌, length, codes, decimal}
use Rattle.std.specs.List.{AllByRecursion}
use Rattle.ndef_cli.specs.Outputs.{hexadecimal_line}
use Rattle.ndef_message.specs.declared.message_reading.Read.{Read}
use Rattle.ndef_message.specs.Written.{cut_octets}
use Rattle.ndef_cli.specs.Quoting.{Text}
use Rattle.ndef_tool.specs.Showing.{AreRecordLines, IsTyped}
use Rattle.ndef_tool.specs.Linking.{AreLinkLines}
use Rattle.ndef_format.specs.declared.profile.Profile.{Profile}
use Rattle.ndef_tool.specs.declared.choice.Action.{Action}
use Rattle.ndef_tool.specs.declared.choice.Action.TheVariants.{Show, Check, Encode}
use Rattle.ndef_tool.specs.declared.choice.Choice.{Choice}
use Rattle.ndef_cli.specs.Outcomes.{outcome_text}
use Rattle.ndef_cli.specs.declared.outcome.Outcome.{Outcome}

-- ---- lines

-- for words that don't parse
abbrev pub ndef_usage : Text
ndef_usage =
    codes "usage: ndef show|check|encode [--hex] [--payload N] [--records N] [--pieces N] [--form short|long] "
    ++ codes "[--chunk N] [--profile strict|standard]\n"

-- for a message
abbrev pub message_line : (number at records bytes : ℕ) → Text
message_line number at records bytes =
    codes "message " ++ decimal number ++ codes " at " ++ decimal at ++ codes ": records "
    ++ decimal records
    ++ codes ", bytes " ++ decimal bytes ++ codes "\n"

-- `encode` leaves it out
abbrev pub outcome_line : Action → ℕ → Outcome → Text
outcome_line Show base how = outcome_text base how
outcome_line Check base how = outcome_text base how
outcome_line (Encode form size) base how = []

-- ---- a whole run

-- bytes as they are, or as a line of hexadecimal digits
abbrev pub bytes_or_digits : Bool → List ℕ → Text
bytes_or_digits false bytes = bytes
bytes_or_digits true bytes = hexadecimal_line bytes

-- the message line, the lines of the records and those of the links
abbrev pub IsShown : Profile → (number at : ℕ) → Read → Text → Type 0
IsShown profile number at read text =
    (records : Text) × (links : Text) × AreRecordLines profile 1 read.message records
    × AreLinkLines profile read.message links
    × (text ≡ message_line number at (length read.message) read.taken ++ records ++ links)

-- the output for a message, with its number and its place
abbrev pub IsBlockBy : Action → Profile → (hex : Bool) → (number at : ℕ) → Read → Text → Type 0
IsBlockBy Show profile hex number at read text = IsShown profile number at read text
IsBlockBy Check profile hex number at read text =
    text ≡ message_line number at (length read.message) read.taken
IsBlockBy (Encode form size) profile hex number at read text =
    text ≡ bytes_or_digits hex (cut_octets form size read.message)

-- the output for a message as it was chosen
abbrev pub IsBlock : Choice → (number at : ℕ) → Read → Text → Type 0
IsBlock choice number at read text =
    IsBlockBy choice.action choice.limits.profile choice.hex number at read text

-- the blocks of the messages, of which the first has this number and this place
abbrev pub AreBlocks : Choice → (number at : ℕ) → List Read → Text → Type 0
AreBlocks choice number at [] text = text ≡ []
AreBlocks choice number at (read ∷ reads) text =
    (block : Text) × (rest : Text) × IsBlock choice number at read block
    × AreBlocks choice (number + 1) (at + read.taken) reads rest × (text ≡ block ++ rest)

-- the bytes of all messages
abbrev pub total_bytes : List Read → ℕ
total_bytes [] = 0
total_bytes (read ∷ reads) = read.taken + total_bytes reads

-- all that is printed
abbrev pub IsOutput : Choice → List Read → Outcome → Text → Type 0
IsOutput choice reads outcome text = (front : Text) × AreBlocks choice 1 0 reads front
    × (text ≡ front ++ outcome_line choice.action (total_bytes reads) outcome)

-- ---- a law

-- The output for messages whose payloads are those of their types, and for an ending, is one
-- text.
abbrev pub OneOutput : Type 0
OneOutput = (choice : Choice) (reads : List Read) (outcome : Outcome) (a b : Text)
    → AllByRecursion (λ r. AllByRecursion (IsTyped choice.limits.profile) r.message) reads
    → IsOutput choice reads outcome a → IsOutput choice reads outcome b → a ≡ b
