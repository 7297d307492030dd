use Rattle.std.proofs.Common.{◌≡◌, ◌∙◌, ◌++◌, ◌∷◌, [], Bool, List, ℕ, ap, codes, false, map, refl, Err, IfOk, Ok, Result}
use Rattle.std.specs.Borrow.{Bor}
use Rattle.std.proofs.lemmas.List.{map-append}
use Rattle.clap.specs.declared.builder.arg.Arg.{Arg}
use Rattle.clap.specs.Words.{AddsAliases, Rule, rule_of}
use Rattle.ndef_cli.specs.CommandLine.{number_rule, pieces_rule}
use Rattle.ndef_cli.proofs.reading_options.pieces_option.Goals as goal

pub returns : goal.returns
returns c = named _ refl c.alias.result c.alias.ensures
  where
    name_of : Bor (List ℕ) × Bool → List ℕ
    name_of alias = alias.0.now

    named : {E : Type 0} (more : List (Bor (List ℕ) × Bool)) → map name_of more ≡ codes "chunks" ∷ [] → (made : Result Arg E)
        → IfOk made (λ new. AddsAliases c.small_option.result new more)
        → IfOk made (λ option. (rule_of option ≡ pieces_rule) × (option.global ≡ false))
    named more are (Ok new) adds =
        let old = c.small_option.result in
        let names = ap (map name_of) adds.1 ∙ map-append name_of old.aliases.items more
        ∙ ap (λ (r : Rule). r.aliases ++ map name_of more) c.small_option.ensures.rule ∙ are in (
          ap rule_of adds.0 ∙ ap (λ (r : Rule). record r { aliases = map name_of new.aliases.items }) c.small_option.ensures.rule
              ∙ ap (λ names. record (number_rule 65535 (codes "pieces")) { aliases = names }) names,
          ap (λ (a : Arg). a.global) adds.0 ∙ c.small_option.ensures.local,
        )
    named more are (Err error) adds = adds
