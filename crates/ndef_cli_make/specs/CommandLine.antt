-- The command line of a part: which subcommands and options there are, in clap's words.
use Rattle.std.specs.Prelude.{◌≡◌, ◌⊎◌, Some, codes, true}
use Rattle.clap.specs.Simple.{built}
use Rattle.clap.specs.Words.{App, Rule, Text, app_of, is_broken, new_app, new_rule, with_rule, with_subcommand}
use Rattle.clap.specs.declared.builder.command.Command.{Command}
use Rattle.clap.specs.declared.builder.action.ArgAction.TheVariants.{Append}
use Rattle.ndef_cli.specs.CommandLine.{flag_rule, hex_app, word_rule}

-- any word, which has to be given
abbrev pub asked_rule : Text → Rule
asked_rule name = record (new_rule name) { long = Some name; required = true }

-- any word, which has to be given, without an option
abbrev pub given_rule : Text → Rule
given_rule name = record (new_rule name) { required = true }

-- a subcommand, with the flags for hexadecimal digits and for bytes as they are, the id and the flag
-- for a record that isn't checked
abbrev pub part_app : Text → App
part_app name =
    with_rule (with_rule (with_rule (hex_app name) (flag_rule (codes "raw"))) (word_rule (codes "id")))
    (flag_rule (codes "unchecked"))

-- the same, and where the payload comes from: a file, or hexadecimal digits
abbrev pub payload_app : Text → App
payload_app name =
    with_rule (with_rule (part_app name) (word_rule (codes "file"))) (word_rule (codes "payload"))

-- a text, its language and its encoding
abbrev pub text_app : App
text_app =
    with_rule (with_rule (with_rule (part_app (codes "text")) (word_rule (codes "language")))
    (flag_rule (codes "utf16"))) (given_rule (codes "text"))

-- a URI
abbrev pub uri_app : App
uri_app = with_rule (part_app (codes "uri")) (given_rule (codes "uri"))

-- any word, which may be given again and again
abbrev pub repeated_rule : Text → Rule
repeated_rule name = record (new_rule name) { long = Some name; action = Some Append }

-- a URI and its titles
abbrev pub titled_app : App
titled_app = with_rule (with_rule (part_app (codes "poster")) (given_rule (codes "uri")))
    (repeated_rule (codes "title"))

-- a URI, titles, an action, a size and a media type
abbrev pub described_app : App
described_app = with_rule (with_rule (with_rule titled_app (word_rule (codes "action")))
    (word_rule (codes "size"))) (word_rule (codes "media"))

-- the same, and an icon and its type
abbrev pub poster_app : App
poster_app = with_rule (with_rule described_app (word_rule (codes "icon")))
    (word_rule (codes "icon-type"))

-- a request or a select, its version, its collision resolution and its carriers
abbrev pub linked_app : App
linked_app = with_rule (with_rule (with_rule (with_rule (part_app (codes "handover")) (given_rule (codes "kind")))
    (word_rule (codes "version"))) (word_rule (codes "collision"))) (repeated_rule (codes "carrier"))

-- the same, and its error
abbrev pub handover_app : App
handover_app = with_rule linked_app (word_rule (codes "error"))

-- a type name format and a type
abbrev pub record_app : App
record_app = with_rule (with_rule (payload_app (codes "record")) (asked_rule (codes "tnf")))
    (word_rule (codes "type"))

-- a media type
abbrev pub media_app : App
media_app = with_rule (payload_app (codes "media")) (given_rule (codes "type"))

-- an external type
abbrev pub external_app : App
external_app = with_rule (payload_app (codes "external")) (given_rule (codes "type"))

-- the package of an application
abbrev pub app_app : App
app_app = with_rule (part_app (codes "app")) (given_rule (codes "package"))

-- a carrier type format and a carrier type
abbrev pub carrier_app : App
carrier_app = with_rule (with_rule (payload_app (codes "carrier")) (asked_rule (codes "format")))
    (asked_rule (codes "type"))

-- the first word must be a subcommand, and none is for help
abbrev pub empty_make_app : App
empty_make_app = let a = new_app (codes "ndef-make") in
    record a {
      top = record a.top {
        no_binary_name = true;
        subcommand_required = true;
        disable_help_flag = true;
        disable_help_subcommand = true;
      };
    }

-- the subcommands whose record isn't made of a payload
abbrev pub plain_make_app : App
plain_make_app =
    with_subcommand (with_subcommand (with_subcommand (with_subcommand (with_subcommand empty_make_app
    text_app.top) uri_app.top) poster_app.top) handover_app.top) app_app.top

-- all of it
abbrev pub make_app : App
make_app =
    with_subcommand (with_subcommand (with_subcommand (with_subcommand plain_make_app
    record_app.top) media_app.top) external_app.top) carrier_app.top

-- the command, built by a parse before or not; it is broken where memory ran out for that
abbrev pub IsMaker : Command → Type 0
IsMaker command =
    (is_broken command ≡ true) ⊎ ((app_of command ≡ make_app) ⊎ (app_of command ≡ built make_app))
