-- The command line: which options there are, in clap's words.
use Rattle.std.specs.Prelude.{Some, codes, true}
use Rattle.clap.specs.Words.{App, Rule, Text, new_rule, with_rule}
use Rattle.clap.specs.declared.builder.action.ArgAction.TheVariants.{Append}
use Rattle.ndef_cli.specs.CommandLine.{flag_rule, number_rule, word_rule}
use Rattle.ndef_cli.specs.CommandLine.{reading_app}

-- words without an option, of which there may be any number
abbrev pub words_rule : Text → Rule
words_rule name = record (new_rule name) { action = Some Append }

-- what reading takes, when output is in colour, and whether it is in JSON, has UTF-8 in it, or a column of characters
abbrev pub shown_app : App
shown_app = with_rule (with_rule (with_rule (with_rule (reading_app (codes "ndef-explain")) (word_rule (codes "color")))
    (flag_rule (codes "json"))) (flag_rule (codes "utf8"))) (flag_rule (codes "characters"))

-- the same, whether bytes are written as they are, those of which record, and the names of files
abbrev pub options_app : App
options_app = with_rule (with_rule (with_rule shown_app (flag_rule (codes "raw")))
    (number_rule 4294967295 (codes "record"))) (words_rule (codes "file"))

-- all of it; no option of clap's own is for help
abbrev pub explain_app : App
explain_app = record options_app { top = record options_app.top { disable_help_flag = true } }
