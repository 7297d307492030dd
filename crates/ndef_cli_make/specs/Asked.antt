-- The request of the words: the parts that `--and` separates, each a subcommand with its options.
use Rattle.std.specs.Prelude.{◌≡◌, Bool, List, Option, Some, None, Result, Ok, Err, ⊤, codes}
use Rattle.std.specs.List.{list_any, slice_split}
use Rattle.std.specs.Str.{bytes_eq}
use Rattle.clap.specs.Words.{App, Row, Text, fault_of, found_of, rows_of, subcommand_of}
use Rattle.ndef_cli.specs.Options.{unless_fault}
use Rattle.ndef_cli_make.specs.CommandLine.{make_app}
use Rattle.ndef_cli_make.specs.declared.fault.Fault.{Fault}
use Rattle.ndef_cli_make.specs.declared.fault.Fault.TheVariants.{Usage, Memory}
use Rattle.ndef_cli_make.specs.declared.usage_error.UsageError.TheVariants as usage_error
use Rattle.ndef_cli_make.specs.declared.parts.ParsedPart.{ParsedPart}

-- the name of a subcommand, and the values of its options
abbrev pub AskedPart : Type 0
AskedPart = Text × List Row

-- what words say on a command line: nothing where clap finds a fault in them
abbrev pub part_by : App → List Text → Option AskedPart
part_by app words = unless_fault (fault_of app words) (subcommand_of app words)

-- the meaning of the words of a part
abbrev pub part_in : List Text → Option AskedPart
part_in words = part_by make_app words

-- the words between those that are `--and`
abbrev pub parts_of : List Text → List (List Text)
parts_of words = slice_split (λ word. bytes_eq word (codes "--and")) words

-- whether a word is among these
abbrev pub has_word : (id : Text) → List Text → Bool
has_word id words = list_any (λ word. bytes_eq word id) words

-- ---- step by step

-- the subcommand and the options of matches
abbrev pub asked_part : ParsedPart → AskedPart
asked_part said = (said.name.now, rows_of (found_of said.matches))

-- the meaning of a part; exactly if it has none, its words are wrong
abbrev pub SaysPart : List Text → Result ParsedPart Fault → Type 0
SaysPart words (Ok said) = part_in words ≡ Some (asked_part said)
SaysPart words (Err (Usage usage_error.Words)) = part_in words ≡ None
SaysPart words (Err Memory) = ⊤
SaysPart words (Err _) = ⊥
