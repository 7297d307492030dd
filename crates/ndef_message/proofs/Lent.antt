-- The contract of a `fill` about its source after the borrow, and the weaker one of its trait.
use Rattle.std.specs.Prelude.{⊤}
use seplogic.Ra.Ura.{Ura}
use mathlib.Core.List.{[]}
use mathlib.Core.Option.{none}
use base.Fml.{GName}
use base.Logic.{SProp, ent, sep, emp, ex_i, ex_e, via, id⊢, mono_r, fst∗}
use contract.Monad.{fact_i}
use types.Logic.{Logic, sem}
use denote.RattleType.{RattleType}
use denote.Follow.{follows_if, follows_so, such_by}
use borrow.Fn.Refines.{Gives, Turns, by_parts}

module _ {M : Type 1} {𝓤 : Ura M} (𝓛 : Logic 𝓤) (R : RattleType) (γ : GName) (P Q : R.Denot → Type 0) where
  -- what holds of the value holds where less is said of it
  pub rests_less : ((n : R.Denot) → P n → Q n) → ent 𝓤 (sem 𝓛 (follows_so R R γ none (λ _ _. ⊤) P)) (sem 𝓛 (follows_so R R γ none (λ _ _. ⊤) Q))
  unfolding such_by
  rests_less h =
      let A : (R.Denot → Type 0) → Type 0 = λ X. (p : (R.Denot → R.Denot) × R.Denot) × ((z : R.Denot) → ⊤) × X p.1 in
      ex_e 𝓤 (λ (s : A P). sem 𝓛 (follows_if R R γ none s.0.0 s.0.1)) (λ s. ex_i 𝓤 (λ (s : A Q). sem 𝓛 (follows_if R R γ none s.0.0 s.0.1)) (s.0, s.1, h s.0.1 s.2))

module _ {M : Type 1} (𝓤 : Ura M) where
  -- of three parts the first stays, the second says less, and the third is left out
  pub less : (S A C B : SProp 𝓤) → ent 𝓤 A B → ent 𝓤 (sep 𝓤 S (sep 𝓤 A C)) (sep 𝓤 S B)
  less S A C B h = mono_r 𝓤 S (via 𝓤 A (fst∗ 𝓤 A C) h)

  -- what is ensured gives what is asked
  pub turns : (R X : Type 0) (D D' : R → X → SProp 𝓤) → ((r : R) (e : X) → ent 𝓤 (D r e) (D' r e)) → Gives 𝓤 (emp 𝓤) (Unit {0}) (λ g. emp 𝓤) (λ g. Turns 𝓤 R X D D')
  turns R X D D' h =
      by_parts 𝓤 [] [] (emp 𝓤) (emp 𝓤) R X (λ r e. []) (λ r e. []) D D' (fact_i 𝓤 (Unit {0}) (emp 𝓤) tt) (λ _. id⊢ 𝓤 (emp 𝓤)) (λ r e. fact_i 𝓤 (Unit {0}) (D r e) tt) (λ r e _. h r e)
      (λ _. tt) (λ _ r e _. tt)
