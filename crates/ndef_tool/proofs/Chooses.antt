-- From a parse to the choice.
use Rattle.std.proofs.Common.{◌≡◌, ◌∙◌, List, [], Option, refl, sym, ap, true}
use Rattle.clap.specs.Words.{App, HasMatchesOf, Text, fault_of, is_simple, is_simple_and_free, subcommand_of, subcommand_rows_of}
use Rattle.clap.specs.declared.parser.matches.ArgMatches.{ArgMatches}
use Rattle.clap.proofs.OnLiterals.{clap_on_literals}
use Rattle.ndef_cli.specs.OptionLaws.{faultless}
use Rattle.ndef_tool.specs.CommandLine.{ndef_app}
use Rattle.ndef_tool.specs.Chosen.{choice_by, chosen_of}
use Rattle.ndef_tool.specs.declared.choice.Choice.{Choice}

pub ndef_is_simple : is_simple ndef_app ≡ true
unfolding clap_on_literals
ndef_is_simple = refl

pub ndef_is_free : is_simple_and_free ndef_app ≡ true
unfolding clap_on_literals
ndef_is_free = refl

-- a parse that succeeds gives the choice
pub parsed : (built expected : App) (words : List Text) (m : ArgMatches) (r : Option Choice) → built ≡ expected → is_simple expected ≡ true
    → is_simple_and_free expected ≡ true → HasMatchesOf built words m → (is_simple_and_free built ≡ true → fault_of built words ≡ [])
    → r ≡ chosen_of (subcommand_rows_of m) → choice_by expected words ≡ r
parsed built expected words m r is simple free matches kinds chosen =
    let rows : subcommand_rows_of m ≡ subcommand_of expected words = (matches (ap is_simple is ∙ simple)).1 ∙ ap (λ (a : App). subcommand_of a words) is in
    faultless built expected words (chosen_of (subcommand_of expected words)) is free kinds ∙ ap chosen_of (sym rows) ∙ sym chosen
