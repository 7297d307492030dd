-- The command line: which subcommands and options there are, in clap's words.
use Rattle.std.specs.Prelude.{codes, true}
use Rattle.clap.specs.Words.{App, new_app, with_rule, with_subcommand}
use Rattle.ndef_cli.specs.CommandLine.{number_rule, reading_app, word_rule}

-- the options of reading, and how messages are written
abbrev pub encode_app : App
encode_app = with_rule (with_rule (reading_app (codes "encode")) (word_rule (codes "form")))
    (number_rule 4294967295 (codes "chunk"))

-- a subcommand must be given, and none is for help
abbrev pub empty_ndef_app : App
empty_ndef_app = let a = new_app (codes "ndef") in
    record a {
      top = record a.top {
        subcommand_required = true;
        disable_help_flag = true;
        disable_help_subcommand = true;
      };
    }

-- all of it
abbrev pub ndef_app : App
ndef_app = with_subcommand (with_subcommand (with_subcommand empty_ndef_app (reading_app (codes "show")).top)
    (reading_app (codes "check")).top) encode_app.top
