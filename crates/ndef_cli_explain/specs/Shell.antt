-- Commands for a shell (POSIX, Shell Command Language) that read the message of which a hint speaks.
use Rattle.std.specs.Prelude.{◌==◌, ◌||◌, ◌&&◌, ◌+◌, ◌-◌, ◌<◌, ◌^◌, ℕ, ⊤, Bool, true, false, [], ◌∷◌, ◌++◌, Option, Some, None, codes, decimal, if◌then◌else◌, nat_eq, nat_le, nat_lt, option_map}
use Rattle.std.specs.List.{flat_map, list_all, starts_with}
use Rattle.std.specs.Str.{bytes_eq}
use Rattle.ndef_format.specs.Limits.{LimitValues, usual_limits}
use Rattle.ndef_format.specs.declared.profile.Profile.{Profile}
use Rattle.ndef_format.specs.declared.profile.Profile.TheVariants.{Strict, Standard}
use Rattle.ndef_diagnostics.specs.Hints.{given_length, standard}
use Rattle.ndef_diagnostics.specs.declared.dump_text.DumpText.{DumpText}
use Rattle.ndef_diagnostics.specs.declared.dump_text.DumpText.TheVariants as texts
use Rattle.ndef_diagnostics.specs.declared.hint.Hint.{Hint}
use Rattle.ndef_diagnostics.specs.declared.hint.Hint.TheVariants as hints
use Rattle.ndef_cli.specs.Quoting.{Text}
use Rattle.ndef_cli_explain.specs.declared.shell.Source.{Source}
use Rattle.ndef_cli_explain.specs.declared.shell.Step.{Step}
use Rattle.ndef_cli_explain.specs.declared.shell.Step.TheVariants as steps

-- the origin of an input: the name of its file, unless it is standard input; whether it is hexadecimal text; and the
-- limits with which it is read
pub record Origin : Type 0 where
  pub file : Option Text
  pub hex : Bool
  pub limits : LimitValues

-- the file of this name; `-` is standard input
abbrev pub file_named : (name : Text) → Option Text
file_named name = if bytes_eq name (codes "-") then None else Some name

-- the origin of a value of the program
abbrev pub origin_of : Source → Origin
origin_of source = record {
  file = file_named source.name.now;
  hex = source.hex;
  limits = source.limits;
}

-- ---- words

-- a letter, a digit, or one of % + , - . / : = @ _
abbrev pub is_plain : ℕ → Bool
is_plain byte =
    (nat_le 0x2b byte && nat_le byte 0x3a) || (nat_le 0x40 byte && nat_le byte 0x5a)
    || (nat_le 0x61 byte && nat_le byte 0x7a) || byte == 0x25 || byte == 0x3d || byte == 0x5f

-- printable ASCII
abbrev pub is_printable : ℕ → Bool
is_printable byte = nat_le 0x20 byte && nat_le byte 0x7e

-- some bytes that no shell reads as anything but themselves
abbrev pub is_plain_word : Text → Bool
is_plain_word [] = false
is_plain_word (byte ∷ more) = list_all is_plain (byte ∷ more)

-- POSIX, single-quotes: a byte between them; for one of them, one that ends the quoted text, one after a backslash, and
-- one that begins it again
abbrev pub quoted_byte : ℕ → Text
quoted_byte byte = if byte == 0x27 then codes "'\\''" else byte ∷ []

-- POSIX, single-quotes: these bytes as one word
abbrev pub shell_word : Text → Text
shell_word word = if is_plain_word word then word else codes "'" ++ flat_map quoted_byte word ++ codes "'"

-- POSIX, utility syntax guidelines: the name of a file that isn't taken for an option
abbrev pub guarded : Text → Text
guarded name = if starts_with nat_eq name (codes "-") then codes "./" ++ name else name

-- a blank and the name of a file; nothing for standard input
abbrev pub file_words : Option Text → Text
file_words None = []
file_words (Some name) = codes " " ++ shell_word (guarded name)

-- the name of a file can be typed
abbrev pub is_typed : Option Text → Bool
is_typed None = true
is_typed (Some name) = list_all is_printable name

-- ---- options

-- the option for a limit, unless it is the usual one
abbrev pub limit_words : (option : Text) → (usual number : ℕ) → Text
limit_words option usual number = if number == usual then [] else option ++ decimal number

-- the option for a profile, unless it is the usual one
abbrev pub profile_words : Profile → Text
profile_words Strict = []
profile_words Standard = codes " --profile standard"

-- the options for limits
unfoldable pub limits_words : LimitValues → Text
limits_words limits =
    limit_words (codes " --payload ") usual_limits.payload limits.payload
    ++ limit_words (codes " --records ") usual_limits.records limits.records
    ++ limit_words (codes " --pieces ") usual_limits.pieces limits.pieces ++ profile_words limits.profile

-- ---- commands

-- the number of bytes of an input of this size that are there of a message, of which a tag has this number at a place,
-- if they aren't all there
abbrev pub there_of : (size place count : ℕ) → Option ℕ
there_of size place count = if nat_lt (size - place) count then Some (size - place) else None

-- the bytes of a message on a tag, if it has some and all of them are there
abbrev pub piece_step : (size place count : ℕ) → Option Step
piece_step size place count =
    if count == 0 || nat_lt (size - place) count then None
    else Some (steps.Piece (place + 1) count)

-- what reads a text that spells bytes
abbrev pub text_step : DumpText → Option Step
text_step texts.Digits = Some steps.Hexadecimal
text_step texts.Xxd = Some steps.Hexadecimal
text_step texts.Hexdump = Some steps.Hexadecimal
text_step texts.Od = Some steps.Hexadecimal
text_step texts.Suppressed = None
text_step texts.Words = None
text_step texts.Flipper = Some steps.Hexadecimal
text_step texts.Proxmark = None
text_step texts.Base64 = Some steps.Base64

-- a message begins at a place that can be counted
abbrev pub IsNear : Hint → Type 0
IsNear (hints.MessageAt place) = place < 2 ^ 32
IsNear hint = ⊤

-- what reads the message of a hint, on an input of this size
abbrev pub step_of : (size : ℕ) → Hint → Option Step
step_of size (hints.InTag found) = piece_step size found.at (given_length found)
step_of size (hints.Text text) = text_step text
step_of size (hints.MessageAt place) = Some (steps.Rest (place + 1))
step_of size hints.AfterBlocks = None
step_of size hints.CodeLeftOut = None
step_of size hints.StandardProfile = Some steps.Standard

-- the name of the program
unfoldable pub program : Text
program = codes "ndef-explain"

-- the program with these limits, at the end of a pipeline
abbrev pub reader_words : LimitValues → Text
reader_words limits = codes " | " ++ program ++ limits_words limits

-- what gives the bytes of a file, or of standard input, from one on, counted from 1
abbrev pub tail_words : (from : ℕ) → (file : Text) → Text
tail_words from file = codes "tail -c +" ++ decimal from ++ file

-- the command that does this with the bytes of a file, or of standard input
abbrev pub step_text : (file : Text) → LimitValues → Step → Text
step_text file limits (steps.Piece from count) =
    tail_words from file ++ codes " | head -c " ++ decimal count ++ reader_words limits
step_text file limits (steps.Rest from) = tail_words from file ++ reader_words limits
step_text file limits steps.Hexadecimal = program ++ codes " --hex" ++ limits_words limits ++ file
step_text file limits steps.Base64 = codes "base64 -d" ++ file ++ reader_words limits
step_text file limits steps.Standard = program ++ limits_words (standard limits) ++ file

-- what gives the bytes that hexadecimal text spells, at the head of a pipeline
abbrev pub spelled_words : (file : Text) → Text
spelled_words file = program ++ codes " --hex --raw" ++ file ++ codes " | "

-- the same with the bytes of an input
abbrev pub command_by : (hex : Bool) → (file : Text) → LimitValues → Step → Text
command_by false file limits step = step_text file limits step
command_by true file limits step = spelled_words file ++ step_text [] limits step

-- the command that reads the message of a hint, on an input of this size, if there is one
abbrev pub command_of : Origin → (size : ℕ) → Hint → Option Text
command_of origin size hint =
    if is_typed origin.file
    then option_map (λ step. command_by origin.hex (file_words origin.file) origin.limits step) (step_of size hint)
    else None
