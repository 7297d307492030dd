-- Steps of a command line, in clap's words.
use Rattle.std.specs.Prelude.{◌≡◌, ◌∷◌, [], IfOk, Result, Some, codes, false, ℕ, pos}
use Rattle.clap.specs.declared.builder.value_parser.ValueParser.TheVariants as vp
use Rattle.clap.specs.Words.{App, Rule, Text, app_of, new_app, new_rule, with_rule}
use Rattle.clap.specs.declared.builder.action.ArgAction.TheVariants.{SetTrue}
use Rattle.clap.specs.declared.builder.command.Command.{Command}
use Rattle.clap.specs.declared.builder.command.Command.TheViews.{out-Command as fields_of}

-- a command with these options and subcommands, each for its own level alone, where there was
-- memory for it
abbrev pub IsCommand : {E : Type 0} → App → Result Command E → Type 0
IsCommand app made =
    IfOk made (λ command. (app_of command ≡ app) × ((fields_of command).has_globals ≡ false))

-- a flag
abbrev pub flag_rule : Text → Rule
flag_rule name = record (new_rule name) { long = Some name; action = Some SetTrue }

-- any word
abbrev pub word_rule : Text → Rule
word_rule name = record (new_rule name) { long = Some name }

-- a subcommand with the flag for hexadecimal text
abbrev pub hex_app : Text → App
hex_app name = with_rule (new_app name) (flag_rule (codes "hex"))

-- a number from 1 to the most
abbrev pub number_rule : ℕ → Text → Rule
number_rule most name =
    record (new_rule name) { long = Some name; parser = Some (vp.Signed (pos 1) (pos most)) }

-- the most chunks of a record; the option has two names
abbrev pub pieces_rule : Rule
pieces_rule = record (number_rule 65535 (codes "pieces")) { aliases = codes "chunks" ∷ [] }

-- a subcommand, with the flag for hexadecimal text and the limits
abbrev pub limits_app : Text → App
limits_app name =
    with_rule (with_rule (with_rule (hex_app name) (number_rule 4294967295 (codes "payload")))
    (number_rule 65535 (codes "records"))) pieces_rule

-- hexadecimal text, the limits and the profile
abbrev pub reading_app : Text → App
reading_app name = with_rule (limits_app name) (word_rule (codes "profile"))
