-- The records of the contents, one after another.
use Rattle.std.proofs.Common.{◌≡◌, ◌∙◌, ◌<◌, ◌≤◌, ◌+◌, ℕ, suc, List, [], ◌∷◌, ◌++◌, length, take, map, get_or, append_assoc, Result, Ok, Err, refl, sym, ap, subst, inl, inr}
use Rattle.std.proofs.lemmas.List.{take_all}
use Rattle.ndef_format.specs.Messages.{Item}
use Rattle.ndef_cli_make.specs.Records.{Answer, AreMadeBy, FailsBy, IsUnmade}
use Rattle.ndef_cli_make.specs.declared.fault.Fault.{Fault}
use Rattle.ndef_cli_make.specs.declared.fault.Fault.TheVariants.{Memory}
use Rattle.ndef_cli_make.proofs.Lists.{mapped_at, mapped_more}

made_after : {X : Type 0} (makes : X → Answer → Type 0) (xs : List X) (items : List Item) (x : X) (i : Item) → AreMadeBy makes xs items → makes x (Ok i)
    → AreMadeBy makes (xs ++ x ∷ []) (items ++ i ∷ [])
made_after makes [] [] x i are is = (is, tt)
made_after makes [] (j ∷ items) x i are is = absurd are
made_after makes (y ∷ xs) [] x i are is = absurd are
made_after makes (y ∷ xs) (j ∷ items) x i are is = (are.0, made_after makes xs items x i are.1 is)

-- one record more
pub made_more : {A X : Type 0} (makes : X → Answer → Type 0) (f : A → X) (ps : List A) (n : ℕ) (p : A) (items : List Item) (i : Item) → n < length ps → p ≡ get_or ps n p
    → AreMadeBy makes (map f (take n ps)) items → makes (f p) (Ok i) → AreMadeBy makes (map f (take (n + 1) ps)) (items ++ i ∷ [])
made_more makes f ps n p items i l e are is =
    subst (λ xs. AreMadeBy makes xs (items ++ i ∷ [])) (sym (mapped_more f ps n p l e)) (made_after makes (map f (take n ps)) items (f p) i are is)

-- records are made, and stand after others
abbrev pub AreKept : {X : Type 0} → (X → Answer → Type 0) → List X → (before after : List Item) → Type 0
AreKept makes xs before after = (items : List Item) × AreMadeBy makes xs items × (after ≡ before ++ items)

-- ---- where no record is made

pub unmade : {Y : Type 0} (makes : Result Y Fault → Type 0) (fault : Fault) → makes (Err fault) → IsUnmade makes fault
unmade makes Memory is = inl is
unmade makes _ is = is

fails_at : {A X : Type 0} (makes : X → Answer → Type 0) (f : A → X) (ps : List A) (n : ℕ) (p : A) (items : List Item) (fault : Fault) → n < length ps → p ≡ get_or ps n p
    → AreMadeBy makes (map f (take n ps)) items → IsUnmade (makes (f p)) fault → FailsBy makes (map f ps) fault
fails_at makes f ps n p items fault l e are is =
    let split = mapped_at f ps n p l e in
    (map f (take n ps), items, f p, split.0, split.1, are, is)

-- no records where one isn't made
pub made_fails : {A X : Type 0} (makes : X → Answer → Type 0) (f : A → X) (ps : List A) (n : ℕ) (p : A) (items : List Item) (fault : Fault) → n < length ps → p ≡ get_or ps n p
    → AreMadeBy makes (map f (take n ps)) items → makes (f p) (Err fault) → FailsBy makes (map f ps) fault
made_fails makes f ps n p items fault l e are is = fails_at makes f ps n p items fault l e are (unmade (makes (f p)) fault is)

-- no records where memory to keep one runs out
pub kept_fails : {A X : Type 0} (makes : X → Answer → Type 0) (f : A → X) (ps : List A) (n : ℕ) (p : A) (items : List Item) (i : Item) → n < length ps → p ≡ get_or ps n p
    → AreMadeBy makes (map f (take n ps)) items → makes (f p) (Ok i) → FailsBy makes (map f ps) Memory
kept_fails makes f ps n p items i l e are is = fails_at makes f ps n p items Memory l e are (inr (i, is))

-- ---- two lists

-- the records of both
pub made_both : {X : Type 0} (makes : X → Answer → Type 0) (xs ys : List X) (items more : List Item) → AreMadeBy makes xs items → AreMadeBy makes ys more
    → AreMadeBy makes (xs ++ ys) (items ++ more)
made_both makes [] ys [] more are others = others
made_both makes [] ys (i ∷ items) more are others = absurd are
made_both makes (x ∷ xs) ys [] more are others = absurd are
made_both makes (x ∷ xs) ys (i ∷ items) more are others = (are.0, made_both makes xs ys items more are.1 others)

-- none of all, where one in the middle isn't made
pub fails_within : {X : Type 0} (makes : X → Answer → Type 0) (before xs following : List X) (items : List Item) (fault : Fault) → AreMadeBy makes before items → FailsBy makes xs fault
    → FailsBy makes (before ++ (xs ++ following)) fault
fails_within makes before xs following items fault are f =
    let is : before ++ (xs ++ following) ≡ (before ++ f.0) ++ f.2 ∷ (f.3 ++ following) =
    ap (λ ys. before ++ (ys ++ following)) f.4 ∙ ap (λ ys. before ++ ys) (append_assoc f.0 (f.2 ∷ f.3) following) ∙ sym (append_assoc before f.0 (f.2 ∷ (f.3 ++ following))) in
    (before ++ f.0, items ++ f.1, f.2, f.3 ++ following, is, made_both makes before f.0 items f.1 are f.5, f.6)

-- ---- records after others

-- one record more is appended
pub kept_more : {A X : Type 0} (makes : X → Answer → Type 0) (f : A → X) (ps : List A) (n : ℕ) (p : A) (before now after : List Item) (i : Item) → n < length ps → p ≡ get_or ps n p
    → AreKept makes (map f (take n ps)) before now → makes (f p) (Ok i) → after ≡ now ++ i ∷ [] → AreKept makes (map f (take (n + 1) ps)) before after
kept_more makes f ps n p before now after i l e kept is grown =
    (kept.0 ++ i ∷ [], made_more makes f ps n p kept.0 i l e kept.1 is, grown ∙ ap (λ t. t ++ i ∷ []) kept.2 ∙ append_assoc before kept.0 (i ∷ []))

-- all are
pub kept_whole : {A X : Type 0} (makes : X → Answer → Type 0) (f : A → X) (ps : List A) (n : ℕ) (before after : List Item) → length ps ≤ n
    → AreKept makes (map f (take n ps)) before after → AreKept makes (map f ps) before after
kept_whole makes f ps n before after l kept = subst (λ qs. AreKept makes (map f qs) before after) (take_all n ps l) kept

-- as many records as are asked for
pub made_as_many : {X : Type 0} (makes : X → Answer → Type 0) (xs : List X) (items : List Item) → AreMadeBy makes xs items → length items ≡ length xs
made_as_many makes [] [] are = refl
made_as_many makes [] (i ∷ items) are = absurd are
made_as_many makes (x ∷ xs) [] are = absurd are
made_as_many makes (x ∷ xs) (i ∷ items) are = ap suc (made_as_many makes xs items are.1)
