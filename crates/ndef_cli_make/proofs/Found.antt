-- The references of handovers, one after another.
use Rattle.std.proofs.Common.{◌≡◌, ◌∙◌, ◌+◌, ◌<◌, ◌≤◌, ℕ, Bool, List, [], ◌∷◌, ◌++◌, append-nil, length, take, get_or, map, Option, None, Some, Err, sym, ap, subst}
use Rattle.std.specs.Option.{option_or}
use Rattle.std.specs.List.{find, flat_map}
use Rattle.std.proofs.lemmas.List.{take_all}
use Rattle.std.proofs.lemmas.List.Concat.{flat_map-append}
use Rattle.std.proofs.lemmas.List.Folds.{find-append}
use Rattle.clap.specs.Words.{Text}
use Rattle.ndef_format.specs.Messages.{Item}
use Rattle.ndef_cli_make.specs.References.{AreFound, FindsMissing, is_missing}
use Rattle.ndef_cli_make.specs.declared.fault.Fault.{Fault}
use Rattle.ndef_cli_make.specs.declared.fault.Fault.TheVariants.{Refused, Memory}
use Rattle.ndef_cli_make.specs.declared.fault.Refused.TheVariants as refused
use Rattle.ndef_cli_make.proofs.Lists.{mapped_at, mapped_more}

-- nothing is found before, so what is found after is the first
found_after : {X : Type 0} (test : X → Bool) (xs ys : List X) → find test xs ≡ None → find test (xs ++ ys) ≡ find test ys
found_after test xs ys none = find-append test xs ys ∙ ap (λ o. option_or o (find test ys)) none

-- the first that is found is the first in more
found_before : {X : Type 0} (test : X → Bool) (xs ys : List X) (x : X) → find test xs ≡ Some x → find test (xs ++ ys) ≡ Some x
found_before test xs ys x is = find-append test xs ys ∙ ap (λ o. option_or o (find test ys)) is

-- the references of one element more
pub none_more : {A B : Type 0} (items : List Item) (f : B → List Text) (g : A → B) (ps : List A) (n : ℕ) (p : A) → n < length ps → p ≡ get_or ps n p
    → find (is_missing items) (flat_map f (map g (take n ps))) ≡ None → find (is_missing items) (f (g p)) ≡ None
    → find (is_missing items) (flat_map f (map g (take (n + 1) ps))) ≡ None
none_more items f g ps n p l e before none =
    ap (λ xs. find (is_missing items) (flat_map f xs)) (mapped_more g ps n p l e)
    ∙ ap (find (is_missing items)) (flat_map-append f (map g (take n ps)) (g p ∷ []))
    ∙ found_after (is_missing items) (flat_map f (map g (take n ps))) (f (g p) ++ []) before
    ∙ ap (find (is_missing items)) (append-nil (f (g p))) ∙ none

-- the first reference of an element that isn't found
some_at : {A B : Type 0} (items : List Item) (f : B → List Text) (g : A → B) (ps : List A) (n : ℕ) (p : A) (r : Text) → n < length ps → p ≡ get_or ps n p
    → find (is_missing items) (flat_map f (map g (take n ps))) ≡ None → find (is_missing items) (f (g p)) ≡ Some r
    → find (is_missing items) (flat_map f (map g ps)) ≡ Some r
some_at items f g ps n p r l e before is =
    let split = mapped_at g ps n p l e in
    ap (λ xs. find (is_missing items) (flat_map f xs)) split.1
    ∙ ap (find (is_missing items)) (flat_map-append f (map g (take n ps)) (g p ∷ split.0))
    ∙ found_after (is_missing items) (flat_map f (map g (take n ps))) (f (g p) ++ flat_map f split.0) before
    ∙ found_before (is_missing items) (f (g p)) (flat_map f split.0) r is

-- all of them
pub found_whole : {A B : Type 0} (items : List Item) (f : B → List Text) (g : A → B) (ps : List A) (n : ℕ) → length ps ≤ n
    → find (is_missing items) (flat_map f (map g (take n ps))) ≡ None → find (is_missing items) (flat_map f (map g ps)) ≡ None
found_whole items f g ps n l none = ap (λ qs. find (is_missing items) (flat_map f (map g qs))) (sym (take_all n ps l)) ∙ none

-- ---- where a reference isn't found

-- a fault names a reference that is missing
found_some : (o : Option Text) (fault : Fault) → FindsMissing o (Err fault) → (r : Text) × (o ≡ Some r)
found_some o (Refused (refused.NoRecord r)) h = (r, h)
found_some o (Refused refused.PartTooLong) h = (h.0, h.1)
found_some o Memory h = (h.0, h.1)
found_some o _ h = absurd h

-- the same of a fault of another list, where that has the same first reference that is missing
found_as : (o p : Option Text) (fault : Fault) → ((r : Text) → o ≡ Some r → p ≡ Some r) → FindsMissing o (Err fault) → FindsMissing p (Err fault)
found_as o p fault agree h =
    let some = found_some o fault h in subst (λ (x : Option Text). FindsMissing x (Err fault)) (some.1 ∙ sym (agree some.0 some.1)) h

-- a reference of an element isn't found
pub unfound_at : {A B : Type 0} (items : List Item) (f : B → List Text) (g : A → B) (ps : List A) (n : ℕ) (p : A) (fault : Fault) → n < length ps → p ≡ get_or ps n p
    → find (is_missing items) (flat_map f (map g (take n ps))) ≡ None → AreFound items (f (g p)) (Err fault) → AreFound items (flat_map f (map g ps)) (Err fault)
unfound_at items f g ps n p fault l e before h =
    found_as (find (is_missing items) (f (g p))) (find (is_missing items) (flat_map f (map g ps))) fault (λ r is. some_at items f g ps n p r l e before is) h
