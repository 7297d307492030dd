-- The request that the words make.
use Rattle.std.specs.Prelude.{◌≡◌, Bool, true, false, List, [], Option, Some, None, Result, Ok, Err, ⊤, map, codes, if◌then◌else◌, option_and_then, option_map, unwrap_or}
use Rattle.std.specs.Option.{option_map_or}
use Rattle.std.specs.Str.{bytes_eq}
use Rattle.clap.specs.Words.{App, Row, Text, all_of, fault_of, first_of, matches_of}
use Rattle.ndef_cli.specs.Options.{flag_of, hex_of, unless_fault}
use Rattle.ndef_cli.specs.LimitOptions.{chosen_limits, given_number}
use Rattle.ndef_cli.specs.declared.args_error.ArgsError.{ArgsError}
use Rattle.ndef_cli.specs.declared.args_error.ArgsError.TheVariants.{Usage, NoMemory}
use Rattle.ndef_cli_explain.specs.CommandLine.{explain_app}
use Rattle.ndef_cli_explain.specs.declared.choice.Asked.{Asked}
use Rattle.ndef_cli_explain.specs.declared.choice.ExplainChoice.{ExplainChoice}
use Rattle.ndef_cli_explain.specs.declared.choice.Color.{Color}
use Rattle.ndef_cli_explain.specs.declared.choice.Color.TheVariants as color
use Rattle.ndef_cli_explain.specs.declared.choice.Wanted.{Wanted}
use Rattle.ndef_cli_explain.specs.declared.choice.Wanted.TheVariants as wanted

-- when output is in colour, by this name
abbrev pub color_named : Text → Option Color
color_named name = if bytes_eq name (codes "auto") then Some color.Auto
    else (if bytes_eq name (codes "always") then Some color.Always
    else (if bytes_eq name (codes "never") then Some color.Never else None))

-- the same of the option, and `auto` where it isn't given
abbrev pub chosen_color : List Row → Option Color
chosen_color rows = option_map_or color_named (first_of (codes "color") rows) (Some color.Auto)

-- what is written of an input, by whether it is as it is and by the number of a record: none is named but for this
abbrev pub wanted_by : (raw : Bool) → (record_number : Option Text) → List Row → Option Wanted
wanted_by raw None rows = Some (if raw then wanted.Octets else wanted.Explanation)
wanted_by true (Some text) rows =
    option_map (λ number. wanted.Payload number) (given_number (codes "record") 4294967295 rows)
wanted_by false (Some text) rows = None

-- the same of the options
abbrev pub chosen_wanted : List Row → Option Wanted
chosen_wanted rows = wanted_by (flag_of (codes "raw") rows) (first_of (codes "record") rows) rows

-- the choice of the options
abbrev pub choice_in : List Row → Option ExplainChoice
choice_in rows =
    option_and_then (λ limits.
    option_and_then (λ c.
    option_map (λ w. record {
      hex = hex_of rows;
      color = c;
      json = flag_of (codes "json") rows;
      shown = record { utf8 = flag_of (codes "utf8") rows; characters = flag_of (codes "characters") rows };
      wanted = w;
      limits = limits;
    }) (chosen_wanted rows)) (chosen_color rows)) (chosen_limits rows)

-- the names of files that are given
abbrev pub files_in : List Row → List Text
files_in rows = unwrap_or (all_of (codes "file") rows) []

-- the choice, and the names of files
abbrev pub asked_in : List Row → Option (ExplainChoice × List Text)
asked_in rows = option_map (λ choice. (choice, files_in rows)) (choice_in rows)

-- the request of words on a command line: nothing where clap finds a fault in them
abbrev pub explaining_asked_by : App → List Text → Option (ExplainChoice × List Text)
explaining_asked_by app words = unless_fault (fault_of app words) (asked_in (matches_of app words))

-- the request of the words by the options of ndef-explain
abbrev pub explaining_asked : List Text → Option (ExplainChoice × List Text)
explaining_asked words = explaining_asked_by explain_app words

-- the parts of a value of the program
abbrev pub asked_parts : Asked → ExplainChoice × List Text
asked_parts asked = (asked.choice, map (λ file. file.now) asked.files.items)

-- the outcome of words that ask for this: the usage line exactly where it is nothing
abbrev pub IsAskedOutcome : Option (ExplainChoice × List Text) → Result Asked ArgsError → Type 0
IsAskedOutcome expected (Ok asked) = expected ≡ Some (asked_parts asked)
IsAskedOutcome expected (Err Usage) = expected ≡ None
IsAskedOutcome expected (Err NoMemory) = ⊤

-- the outcome of the words
abbrev pub Asks : List Text → Result Asked ArgsError → Type 0
Asks words asked = IsAskedOutcome (explaining_asked words) asked
