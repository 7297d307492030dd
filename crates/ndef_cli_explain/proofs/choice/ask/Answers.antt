use Rattle.std.proofs.Common.{rules, map, string_bytes}
use Rattle.clap.specs.Words.{kind_of, matches_of}
use Rattle.clap.specs.declared.error.kind.ErrorKind.TheVariants.{OutOfMemory}
use Rattle.ndef_cli.specs.OptionLaws.{faulty}
use Rattle.ndef_cli_explain.specs.Chosen.{asked_in}
use Rattle.ndef_cli_explain.specs.CommandLine.{explain_app}
use Rattle.ndef_cli_explain.proofs.Asking.{explain_is_free, explain_is_simple, parsed}
use Rattle.ndef_cli_explain.proofs.choice.ask.Goals as goal

pub returns-in-Ok-try_get_matches_from : goal.returns-in-Ok-try_get_matches_from
returns-in-Ok-try_get_matches_from c =
    let parse = c.in-Ok-try_get_matches_from in
    parsed _ explain_app (map string_bytes c.args.words.now) parse.matches _ c.in-Ok.ensures.0 explain_is_simple explain_is_free
    parse.ensures.matches parse.ensures.kinds c.said.ensures

pub returns : goal.returns
returns c =
    let words = map string_bytes c.args.words.now in
    faulty _ explain_app words (kind_of c.in-Err.error) OutOfMemory (asked_in (matches_of explain_app words)) c.in-Ok.ensures.0 explain_is_free
    (search rules) c.in-Err.ensures.kinds
