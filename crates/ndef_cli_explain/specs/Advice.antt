-- The hints for an input that is refused.
use Rattle.std.specs.Prelude.{◌==◌, ℕ, Bool, true, List, [], ◌∷◌, ◌++◌, Option, Some, None, codes, decimal, if◌then◌else◌}
use Rattle.ndef_format.specs.Limits.{LimitValues}
use Rattle.ndef_format.specs.declared.refusal.Refusal.{Refusal}
use Rattle.ndef_diagnostics.specs.Hints.{Applies, hint_length, hint_place, hint_text}
use Rattle.ndef_diagnostics.specs.Remarks.{field_remark, remark_text}
use Rattle.ndef_diagnostics.specs.declared.dump_text.DumpText.{DumpText}
use Rattle.ndef_diagnostics.specs.declared.dump_text.DumpText.TheVariants as texts
use Rattle.ndef_diagnostics.specs.declared.hint.Hint.{Hint}
use Rattle.ndef_diagnostics.specs.declared.hint.Hint.TheVariants as hints
use Rattle.ndef_diagnostics.specs.declared.remark.Remark.{Remark}
use Rattle.ndef_diagnostics.specs.declared.tag_memory.Wrapping.{Wrapping}
use Rattle.ndef_diagnostics.specs.declared.tag_memory.Wrapping.TheVariants as wrappings
use Rattle.ndef_fields.specs.declared.name.FieldName.{FieldName}
use Rattle.ndef_cli.specs.Quoting.{Text}
use Rattle.serde_json.specs.Data.{Data, string}
use Rattle.ndef_cli_explain.specs.Outputs.{Pair, array_of, number_value, object_of}
use Rattle.ndef_cli_explain.specs.Shell.{Origin, command_of, there_of}
use Rattle.ndef_cli_explain.specs.declared.advice.Advice.{Advice}

-- the hint that applies where these bytes are refused so, if one does
abbrev pub IsHint : LimitValues → (input : List ℕ) → Refusal → Option Hint → Type 0
IsHint limits input refusal (Some hint) = Applies limits input refusal hint
IsHint limits input refusal None = (hint : Hint) → Applies limits input refusal hint → ⊥

-- whether a hint after this number of bytes of the input is given: one on what the input is, or on what surrounds a
-- message on a tag, before the first message only
abbrev pub is_given : (at : ℕ) → Hint → Bool
is_given at (hints.InTag found) = at == 0
is_given at (hints.Text text) = at == 0
is_given at (hints.MessageAt place) = at == 0
is_given at hints.AfterBlocks = true
is_given at hints.CodeLeftOut = true
is_given at hints.StandardProfile = true

-- a hint on this number of bytes of an input, how many of those that it names are there, if they aren't all, and the
-- command that reads the message, if there is one
abbrev pub advice_on : Origin → (size : ℕ) → Hint → Advice
advice_on origin size hint = record {
  hint = hint;
  there = there_of size (hint_place hint) (hint_length hint);
  command = command_of origin size hint;
}

-- the same of a hint that is given after this number of bytes, if there is one
abbrev pub advice_of : Origin → (at size : ℕ) → Option Hint → Option Advice
advice_of origin at size None = None
advice_of origin at size (Some hint) = if is_given at hint then Some (advice_on origin size hint) else None

-- ---- lines

-- how many of this number of bytes are there, if they aren't all
abbrev pub there_text : (count : ℕ) → (there : Option ℕ) → Text
there_text count None = []
there_text count (Some there) = codes " " ++ decimal there ++ codes " of " ++ decimal count ++ codes " bytes are there."

-- the line of a command, if there is one
abbrev pub try_line : Option Text → Text
try_line None = []
try_line (Some command) = codes "try: " ++ command ++ codes "\n"

-- the line of a hint and that of its command, if there is one
abbrev pub hint_line : Option Advice → Text
hint_line None = []
hint_line (Some advice) =
    codes "hint: " ++ hint_text advice.hint ++ there_text (hint_length advice.hint) advice.there ++ codes "\n"
    ++ try_line advice.command

-- ---- objects

-- what surrounds a message on a tag, or is unusual about it
abbrev pub wrapping_name : Wrapping → Text
wrapping_name wrappings.Block = codes "tlv"
wrapping_name wrappings.Attributes = codes "attributes"
wrapping_name wrappings.File = codes "file"
wrapping_name wrappings.Interrupted = codes "interrupted"
wrapping_name wrappings.Unfinished = codes "unfinished"

-- a text that spells bytes
abbrev pub dump_name : DumpText → Text
dump_name texts.Digits = codes "digits"
dump_name texts.Xxd = codes "xxd"
dump_name texts.Hexdump = codes "hexdump"
dump_name texts.Od = codes "od"
dump_name texts.Suppressed = codes "od"
dump_name texts.Words = codes "words"
dump_name texts.Flipper = codes "flipper"
dump_name texts.Proxmark = codes "proxmark"
dump_name texts.Base64 = codes "base64"

-- the kind of a hint, as C has it
abbrev pub hint_name : Hint → Text
hint_name (hints.InTag found) = wrapping_name found.wrapping
hint_name (hints.Text text) = dump_name text
hint_name (hints.MessageAt place) = codes "message"
hint_name hints.AfterBlocks = codes "terminator"
hint_name hints.CodeLeftOut = codes "code"
hint_name hints.StandardProfile = codes "standard"

-- a command, if there is one
abbrev pub command_pairs : Option Text → List Pair
command_pairs None = []
command_pairs (Some command) = (codes "command", string command) ∷ []

-- a number, unless it is 0
abbrev pub some_pairs : (name : Text) → (number : ℕ) → List Pair
some_pairs name number = if number == 0 then [] else (name, number_value number) ∷ []

-- how many bytes are there, if they aren't all
abbrev pub there_pairs : (there : Option ℕ) → List Pair
there_pairs None = []
there_pairs (Some there) = (codes "there", number_value there) ∷ []

-- a hint: its command, its kind, the number of bytes that it names, the place of the first, and how many are there
abbrev pub hint_object : Advice → Data
hint_object advice =
    object_of (command_pairs advice.command ++ (codes "kind", string (hint_name advice.hint))
    ∷ (some_pairs (codes "length") (hint_length advice.hint) ++ (some_pairs (codes "offset") (hint_place advice.hint)
    ++ there_pairs advice.there)))

-- a hint and its sentence, if there is one
abbrev pub hint_pairs : Option Advice → List Pair
hint_pairs None = []
hint_pairs (Some advice) =
    (codes "hint", hint_object advice) ∷ (codes "hints", array_of (string (hint_text advice.hint) ∷ [])) ∷ []

-- ---- remarks

-- the warning about a field of this name with these octets, if warnings are printed
abbrev pub said_remark : (remarks : Bool) → FieldName → (octets : List ℕ) → Option Remark
said_remark remarks name octets = if remarks then field_remark name octets else None

-- the line of a remark, if there is one
abbrev pub remark_line : Option Remark → Text
remark_line None = []
remark_line (Some remark) = codes "remark: " ++ remark_text remark ++ codes "\n"
