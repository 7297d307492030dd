-- From a parse to what the words ask for.
use Rattle.std.proofs.Common.{◌≡◌, ◌∙◌, List, [], Option, Result, map, refl, sym, ap, subst, true}
use Rattle.std.specs.Prelude.{codes, option_map, unwrap_or}
use Rattle.std.specs.Borrow.{Bor}
use Rattle.clap.specs.Words.{App, HasMatchesOf, Text, fault_of, found_of, is_simple, is_simple_and_free, matched_of, matches_of, raw_values, rows_of}
use Rattle.clap.specs.declared.parser.matches.ArgMatches.{ArgMatches}
use Rattle.clap.specs.declared.parser.matches.Found.{Found}
use Rattle.clap.proofs.OnLiterals.{clap_on_literals}
use Rattle.clap.proofs.WalkLemmas.{raw_values-rows}
use Rattle.ndef_cli.specs.OptionLaws.{faultless}
use Rattle.ndef_cli.specs.declared.args_error.ArgsError.{ArgsError}
use Rattle.ndef_cli_explain.specs.Chosen.{IsAskedOutcome, explaining_asked_by, asked_in, files_in}
use Rattle.ndef_cli_explain.specs.CommandLine.{explain_app}
use Rattle.ndef_cli_explain.specs.declared.choice.Asked.{Asked}

pub explain_is_simple : is_simple explain_app ≡ true
unfolding clap_on_literals
explain_is_simple = refl

pub explain_is_free : is_simple_and_free explain_app ≡ true
unfolding clap_on_literals
explain_is_free = refl

-- what is answered to the matches of a parse is answered to its words
pub parsed : (built expected : App) (words : List Text) (m : ArgMatches) (r : Result Asked ArgsError) → built ≡ expected → is_simple expected ≡ true
    → is_simple_and_free expected ≡ true → HasMatchesOf built words m → (is_simple_and_free built ≡ true → fault_of built words ≡ [])
    → IsAskedOutcome (asked_in (rows_of (found_of m))) r → IsAskedOutcome (explaining_asked_by expected words) r
parsed built expected words m r is simple free matches kinds answers =
    let rows : rows_of (found_of m) ≡ matches_of expected words = (matches (ap is_simple is ∙ simple)).0 ∙ ap (λ (a : App). matches_of a words) is in
    subst (λ o. IsAskedOutcome o r) (ap asked_in rows ∙ sym (faultless built expected words (asked_in (matches_of expected words)) is free kinds)) answers

-- the names of files that are given
pub files_given : (f : Found) (r : Option (Bor (List (Bor Text)))) → option_map (λ s. map (λ v. v.now) s.now) r ≡ option_map raw_values (matched_of f (codes "file"))
    → unwrap_or (option_map (λ s. map (λ v. v.now) s.now) r) [] ≡ files_in (rows_of f)
files_given f r e = ap (λ o. unwrap_or o []) (e ∙ raw_values-rows f (codes "file"))
