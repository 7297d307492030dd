-- From a parse to the meaning of a part.
use Rattle.std.proofs.Common.{◌≡◌, ◌∙◌, List, [], Option, None, refl, sym, ap, inl, inr, subst, true}
use Rattle.std.specs.Prelude.{◌⊎◌}
use Rattle.clap.specs.Built.{BuildsOrBreaks}
use Rattle.clap.specs.Simple.{built, is_buildable}
use Rattle.clap.specs.Words.{App, HasKind, HasMatchesOf, IsAmong, Kinds, Text, fault_of, is_broken, is_simple, is_simple_and_free, subcommand_of, subcommand_rows_of}
use Rattle.clap.specs.declared.builder.command.Command.{Command}
use Rattle.clap.specs.declared.error.Error.{Error}
use Rattle.clap.specs.declared.error.kind.ErrorKind.{ErrorKind}
use Rattle.clap.specs.declared.parser.matches.ArgMatches.{ArgMatches}
use Rattle.clap.proofs.OnLiterals.{clap_on_literals}
use Rattle.ndef_cli.specs.OptionLaws.{faulty}
use Rattle.ndef_cli.specs.Options.{unless_fault}
use Rattle.ndef_cli_make.specs.CommandLine.{IsMaker, make_app}
use Rattle.ndef_cli_make.specs.Asked.{AskedPart, part_by}

make_is_simple : is_simple make_app ≡ true
unfolding clap_on_literals
make_is_simple = refl

make_is_free : is_simple_and_free make_app ≡ true
unfolding clap_on_literals
make_is_free = refl

built_is_simple : is_simple (built make_app) ≡ true
unfolding clap_on_literals
built_is_simple = refl

built_is_free : is_simple_and_free (built make_app) ≡ true
unfolding clap_on_literals
built_is_free = refl

-- a command that is built is built already
built_twice : built (built make_app) ≡ built make_app
built_twice = refl

-- the words say the same to a command that is built
same_matches : (words : List Text) → subcommand_of (built make_app) words ≡ subcommand_of make_app words
same_matches words = refl

same_faults : (words : List Text) → fault_of (built make_app) words ≡ fault_of make_app words
same_faults words = refl

-- what words say to the command of the program, built or not
pub record IsMade (app : App) (words : List Text) : Type 0 where
  pub simple : is_simple app ≡ true
  pub free : is_simple_and_free app ≡ true
  pub matches : subcommand_of app words ≡ subcommand_of make_app words
  pub faults : fault_of app words ≡ fault_of make_app words

pub maker : (app : App) (words : List Text) → (app ≡ make_app) ⊎ (app ≡ built make_app) → IsMade app words
maker app words (inl is) =
    subst (λ (a : App). IsMade a words) (sym is) (record { simple = make_is_simple; free = make_is_free; matches = refl; faults = refl })
maker app words (inr is) =
    subst (λ (a : App). IsMade a words) (sym is) (record { simple = built_is_simple; free = built_is_free; matches = same_matches words; faults = same_faults words })

-- a parse that succeeds gives the subcommand
pub parsed : (app : App) (words : List Text) (m : ArgMatches) (r : Option AskedPart) → IsMade app words → HasMatchesOf app words m
    → (is_simple_and_free app ≡ true → fault_of app words ≡ []) → r ≡ subcommand_rows_of m → part_by make_app words ≡ r
parsed app words m r is matches kinds said =
    let rows : subcommand_of make_app words ≡ subcommand_rows_of m = sym is.matches ∙ sym (matches is.simple).1 in
    let none : fault_of make_app words ≡ [] = sym is.faults ∙ kinds is.free in
    ap (λ (k : Kinds). unless_fault k (subcommand_of make_app words)) none ∙ rows ∙ sym said

-- one that fails, but not for memory, gives nothing
pub unparsed : (app : App) (words : List Text) (k memory : ErrorKind) → IsMade app words → (k ≡ memory → ⊥)
    → (is_simple_and_free app ≡ true → (k ≡ memory) ⊎ IsAmong k (fault_of app words)) → part_by make_app words ≡ None
unparsed app words k memory is other kinds =
    ap (λ (fs : Kinds). unless_fault fs (subcommand_of make_app words)) (sym is.faults)
    ∙ faulty app app words k memory (subcommand_of make_app words) refl is.free other kinds

-- what clap finds wrong with words
pub faulty_by : (app : App) (words : List Text) (error : Error) → IsMade app words → (is_simple_and_free app ≡ true → HasKind (fault_of app words) error)
    → HasKind (fault_of make_app words) error
faulty_by app words error is kinds = subst (λ (fs : Kinds). HasKind fs error) is.faults (kinds is.free)

-- ---- the command after a parse

buildable : is_buildable make_app ≡ true
unfolding clap_on_literals
buildable = refl

built_is_buildable : is_buildable (built make_app) ≡ true
unfolding clap_on_literals
built_is_buildable = refl

-- a parse builds the command, or it was built
pub maker_after : (old new : Command) → IsMaker old → BuildsOrBreaks old new → (is_broken old ≡ true → is_broken new ≡ true) → IsMaker new
maker_after old new is (inl broken) stays = inl broken
maker_after old new (inl broken) (inr builds) stays = inl (stays broken)
maker_after old new (inr is) (inr (builds, names, inl same)) stays = inr (subst (λ (a : App). (a ≡ make_app) ⊎ (a ≡ built make_app)) (sym same) is)
maker_after old new (inr (inl is)) (inr (builds, names, inr made)) stays =
    inr (inr (made (ap is_buildable is ∙ buildable) ∙ ap built is))
maker_after old new (inr (inr is)) (inr (builds, names, inr made)) stays =
    inr (inr (made (ap is_buildable is ∙ built_is_buildable) ∙ ap built is ∙ built_twice))
