-- The records of the contents, one after another, with the bytes of inputs.
use Rattle.std.proofs.Common.{◌≡◌, ◌<◌, ◌+◌, ℕ, suc, List, [], ◌∷◌, ◌++◌, length, take, map, get_or, Result, Ok, Err, refl, sym, ap, subst, inr}
use Rattle.ndef_cli_make.specs.Faults.{fault_at}
use Rattle.ndef_cli_make.specs.Making.{AreMadeIn, FailsIn}
use Rattle.ndef_cli_make.specs.Records.{IsUnmade}
use Rattle.ndef_cli_make.specs.declared.fault.Fault.{Fault}
use Rattle.ndef_cli_make.specs.declared.fault.Fault.TheVariants.{Memory}
use Rattle.ndef_cli_make.proofs.Lists.{mapped_at, mapped_more}
use Rattle.ndef_cli_make.proofs.Made.{unmade}

in_after : {I X Y : Type 0} (makes : X → I → I → Result Y Fault → Type 0) (xs : List X) (before middle after : I) (items : List Y) (x : X) (i : Y)
    → AreMadeIn makes xs before middle items → makes x middle after (Ok i) → AreMadeIn makes (xs ++ x ∷ []) before after (items ++ i ∷ [])
in_after makes [] before middle after [] x i are is = (after, subst (λ m. makes x m after (Ok i)) are is, refl)
in_after makes [] before middle after (j ∷ items) x i are is = absurd are
in_after makes (y ∷ xs) before middle after [] x i are is = absurd are
in_after makes (y ∷ xs) before middle after (j ∷ items) x i are is = (are.0, are.1, in_after makes xs are.0 middle after items x i are.2 is)

-- one record more
pub in_more : {I A X Y : Type 0} (makes : X → I → I → Result Y Fault → Type 0) (f : A → X) (ps : List A) (n : ℕ) (p : A) (before middle after : I) (items : List Y) (i : Y)
    → n < length ps → p ≡ get_or ps n p → AreMadeIn makes (map f (take n ps)) before middle items → makes (f p) middle after (Ok i)
    → AreMadeIn makes (map f (take (n + 1) ps)) before after (items ++ i ∷ [])
in_more makes f ps n p before middle after items i l e are is =
    subst (λ xs. AreMadeIn makes xs before after (items ++ i ∷ [])) (sym (mapped_more f ps n p l e)) (in_after makes (map f (take n ps)) before middle after items (f p) i are is)

-- as many records as are asked for
pub in_as_many : {I X Y : Type 0} (makes : X → I → I → Result Y Fault → Type 0) (xs : List X) (before after : I) (items : List Y) → AreMadeIn makes xs before after items
    → length items ≡ length xs
in_as_many makes [] before after [] are = refl
in_as_many makes [] before after (i ∷ items) are = absurd are
in_as_many makes (x ∷ xs) before after [] are = absurd are
in_as_many makes (x ∷ xs) before after (i ∷ items) are = ap suc (in_as_many makes xs are.0 after items are.2)

in_fails_at : {I A X Y : Type 0} (makes : X → I → I → Result Y Fault → Type 0) (f : A → X) (ps : List A) (n : ℕ) (p : A) (before middle after : I) (items : List Y) (fault : Fault)
    → n < length ps → p ≡ get_or ps n p → AreMadeIn makes (map f (take n ps)) before middle items → IsUnmade (makes (f p) middle after) fault
    → FailsIn makes (map f ps) before after (fault_at (length items + 1) fault)
in_fails_at makes f ps n p before middle after items fault l e are is =
    let split = mapped_at f ps n p l e in
    let many = in_as_many makes (map f (take n ps)) before middle items are in
    (map f (take n ps), items, middle, f p, split.0, split.1, are, fault, is, ap (λ k. fault_at (k + 1) fault) many)

-- no records where one isn't made
pub in_fails : {I A X Y : Type 0} (makes : X → I → I → Result Y Fault → Type 0) (f : A → X) (ps : List A) (n : ℕ) (p : A) (before middle after : I) (items : List Y) (fault : Fault)
    → n < length ps → p ≡ get_or ps n p → AreMadeIn makes (map f (take n ps)) before middle items → makes (f p) middle after (Err fault)
    → FailsIn makes (map f ps) before after (fault_at (length items + 1) fault)
in_fails makes f ps n p before middle after items fault l e are is =
    in_fails_at makes f ps n p before middle after items fault l e are (unmade (makes (f p) middle after) fault is)

-- no records where memory to keep one runs out
pub in_unkept : {I A X Y : Type 0} (makes : X → I → I → Result Y Fault → Type 0) (f : A → X) (ps : List A) (n : ℕ) (p : A) (before middle after : I) (items : List Y) (i : Y)
    → n < length ps → p ≡ get_or ps n p → AreMadeIn makes (map f (take n ps)) before middle items → makes (f p) middle after (Ok i)
    → FailsIn makes (map f ps) before after Memory
in_unkept makes f ps n p before middle after items i l e are is =
    in_fails_at makes f ps n p before middle after items Memory l e are (inr (i, is))
