-- The choices that the words make.
use Rattle.std.specs.Prelude.{◌≡◌, ◌≤◌, ℕ, List, Option, Some, None, Result, Ok, Err, codes, if◌then◌else◌, ⊤, option_and_then, option_map}
use Rattle.std.specs.Option.{option_map_or, ForSome}
use Rattle.std.specs.Str.{bytes_eq}
use Rattle.clap.specs.Words.{App, Row, Text, first_of, fault_of, subcommand_of}
use Rattle.ndef_message.specs.declared.form.Form.{Form}
use Rattle.ndef_message.specs.declared.form.Form.TheVariants.{Short, Long}
use Rattle.ndef_cli.specs.LimitOptions.{chosen_limits, given_number}
use Rattle.ndef_cli.specs.Options.{hex_of, unless_fault}
use Rattle.ndef_tool.specs.CommandLine.{ndef_app}
use Rattle.ndef_tool.specs.declared.choice.Action.{Action}
use Rattle.ndef_tool.specs.declared.choice.Action.TheVariants.{Show, Check, Encode}
use Rattle.ndef_tool.specs.declared.choice.Choice.{Choice}
use Rattle.ndef_cli.specs.declared.args_error.ArgsError.{ArgsError}
use Rattle.ndef_cli.specs.declared.args_error.ArgsError.TheVariants.{Usage, NoMemory}

-- ---- numbers

-- the size of chunks, or none where it isn't given
abbrev pub chunk_of : List Row → Option (Option ℕ)
chunk_of rows =
    option_map_or (λ _. option_map (λ n. Some n) (given_number (codes "chunk") 4294967295 rows))
    (first_of (codes "chunk") rows) (Some None)

-- ---- words

-- the form of this name
abbrev pub form_named : Text → Option Form
form_named name = if bytes_eq name (codes "short") then Some Short
    else (if bytes_eq name (codes "long") then Some Long else None)

-- the form that is given, or the short one
abbrev pub chosen_form : List Row → Option Form
chosen_form rows = option_map_or form_named (first_of (codes "form") rows) (Some Short)

-- ---- a choice

-- the action of encode
abbrev pub encode_of : List Row → Option Action
encode_of rows =
    option_and_then (λ form. option_map (λ chunk. Encode form chunk) (chunk_of rows)) (chosen_form rows)

-- the action of a subcommand, with its options
abbrev pub chosen_action : Text → List Row → Option Action
chosen_action name rows = if bytes_eq name (codes "show") then Some Show
    else (if bytes_eq name (codes "check") then Some Check
    else (if bytes_eq name (codes "encode") then encode_of rows else None))

-- the choice of a subcommand, with its options
abbrev pub subcommand_choice : Text → List Row → Option Choice
subcommand_choice name rows =
    option_and_then (λ action. option_map (λ limits. record { action = action; hex = hex_of rows; limits = limits })
    (chosen_limits rows)) (chosen_action name rows)

-- the choice of clap's matches
abbrev pub chosen_of : Option (Text × List Row) → Option Choice
chosen_of = option_and_then (λ p. subcommand_choice p.0 p.1)

-- the choices of the words on a command line: nothing where clap finds a fault in them
abbrev pub choice_by : App → List Text → Option Choice
choice_by app words = unless_fault (fault_of app words) (chosen_of (subcommand_of app words))

-- the choices of the words by the subcommands and options of ndef
abbrev pub choice_of : List Text → Option Choice
choice_of words = choice_by ndef_app words

-- the outcome of the words: the choice, and the usage line exactly where there is none
abbrev pub Chooses : List Text → Result Choice ArgsError → Type 0
Chooses words (Ok choice) = choice_of words ≡ Some choice
Chooses words (Err Usage) = choice_of words ≡ None
Chooses words (Err NoMemory) = ⊤

-- ---- sizes

-- a size of chunks is at least 1
abbrev pub HasSizeIfAny : Option ℕ → Type 0
HasSizeIfAny size = ForSome size (λ n. 1 ≤ n)

-- a size of chunks that an action has is at least 1
abbrev pub HasSize : Action → Type 0
HasSize Show = ⊤
HasSize Check = ⊤
HasSize (Encode form size) = HasSizeIfAny size
