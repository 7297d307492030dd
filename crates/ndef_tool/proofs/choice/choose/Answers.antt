use Rattle.std.proofs.Common.{rules, map, string_bytes, Some, None}
use Rattle.clap.specs.Words.{kind_of, subcommand_of}
use Rattle.clap.specs.declared.error.kind.ErrorKind.TheVariants.{OutOfMemory}
use Rattle.ndef_cli.specs.OptionLaws.{faulty}
use Rattle.ndef_tool.specs.CommandLine.{ndef_app}
use Rattle.ndef_tool.specs.Chosen.{chosen_of}
use Rattle.ndef_tool.proofs.Chooses.{parsed, ndef_is_free, ndef_is_simple}
use Rattle.ndef_tool.proofs.choice.choose.Goals as goal

pub returns-in-Some-clause-chosen : goal.returns-in-Some-clause-chosen
returns-in-Some-clause-chosen c =
    let parse = c.in-Ok-try_get_matches_from in
    parsed _ ndef_app (map string_bytes c.args.words.now) parse.matches (Some c.in-Some.choice) c.in-Ok.ensures.0 ndef_is_simple ndef_is_free
    parse.ensures.matches parse.ensures.kinds (search rules)

pub returns-in-Ok-try_get_matches_from-clause-chosen : goal.returns-in-Ok-try_get_matches_from-clause-chosen
returns-in-Ok-try_get_matches_from-clause-chosen c =
    let parse = c.in-Ok-try_get_matches_from in
    parsed _ ndef_app (map string_bytes c.args.words.now) parse.matches None c.in-Ok.ensures.0 ndef_is_simple ndef_is_free
    parse.ensures.matches parse.ensures.kinds (search rules)

pub returns-clause-chosen : goal.returns-clause-chosen
returns-clause-chosen c =
    let words = map string_bytes c.args.words.now in
    faulty _ ndef_app words (kind_of c.in-Err.error) OutOfMemory (chosen_of (subcommand_of ndef_app words)) c.in-Ok.ensures.0 ndef_is_free
    (search rules) c.in-Err.ensures.kinds
