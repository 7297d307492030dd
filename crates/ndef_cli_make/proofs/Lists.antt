-- Lists, one element after another.
use Rattle.std.proofs.Common.{◌≡◌, ◌∙◌, ◌+◌, ◌<◌, ℕ, zero, suc, Bool, true, false, List, [], ◌∷◌, ◌++◌, length, take, get_or, map, Option, Some, None, Result, Ok, Err, refl, sym, ap, ap₂, arith, cond}
use Rattle.std.specs.Prelude.{◌||◌, option_map, IfOk, Vec}
use Rattle.std.specs.Borrow.{Bor}
use Rattle.std.specs.List.{find, list_any, slice_split, onto_first}
use Rattle.std.proofs.lemmas.List.{get_or-map, length-map, map-append, take_more}
use Rattle.std.proofs.lemmas.List.Folds.{list_any_more}

-- ---- words that are cut

map-onto_first : {A B : Type 0} (f : A → B) (x : A) (parts : List (List A)) → map (map f) (onto_first x parts) ≡ onto_first (f x) (map (map f) parts)
map-onto_first f x [] = refl
map-onto_first f x (part ∷ parts) = refl

-- cutting goes with what elements stand for
map-slice_split : {A B : Type 0} (f : A → B) (p : B → Bool) (xs : List A) → map (map f) (slice_split (λ x. p (f x)) xs) ≡ slice_split p (map f xs)
map-slice_split f p [] = refl
map-slice_split {A} {B} f p (x ∷ xs) = go (p (f x)) ∙ ap (λ (rest : List (List B)). cond (p (f x)) ([] ∷ rest) (onto_first (f x) rest)) (map-slice_split f p xs)
  where
    go : (b : Bool) → map (map f) (cond b ([] ∷ slice_split (λ y. p (f y)) xs) (onto_first x (slice_split (λ y. p (f y)) xs)))
        ≡ cond b ([] ∷ map (map f) (slice_split (λ y. p (f y)) xs)) (onto_first (f x) (map (map f) (slice_split (λ y. p (f y)) xs)))
    go true = refl
    go false = map-onto_first f x (slice_split (λ y. p (f y)) xs)

pub map_twice : {A B C : Type 0} (f : B → C) (g : A → B) (xs : List A) → map f (map g xs) ≡ map (λ x. f (g x)) xs
map_twice f g [] = refl
map_twice f g (x ∷ xs) = ap (λ l. f (g x) ∷ l) (map_twice f g xs)

-- the parts of a cut slice, read
pub cut_read : {A B E Z : Type 0} (f : A → B) (p : B → Bool) (r : Result (Vec (Bor (List A)) Z) E) (words : List A)
    → IfOk r (λ w. map (λ x. x.now) w.items ≡ slice_split (λ x. p (f x)) words) → IfOk r (λ w. map (λ x. map f x.now) w.items ≡ slice_split p (map f words))
cut_read f p (Ok w) words e = sym (map_twice (map f) (λ x. x.now) w.items) ∙ ap (map (map f)) e ∙ map-slice_split f p words
cut_read f p (Err e) words h = tt

find-map : {A B : Type 0} (g : A → B) (test : B → Bool) (xs : List A) → option_map g (find (λ x. test (g x)) xs) ≡ find test (map g xs)
find-map g test [] = refl
find-map {A} {B} g test (x ∷ xs) = go (test (g x)) ∙ ap (λ (o : Option B). cond (test (g x)) (Some (g x)) o) (find-map g test xs)
  where
    go : (b : Bool) → option_map g (cond b (Some x) (find (λ y. test (g y)) xs)) ≡ cond b (Some (g x)) (option_map g (find (λ y. test (g y)) xs))
    go true = refl
    go false = refl

-- the first part of a cut slice that passes, read
pub find_read : {A B : Type 0} (f : A → B) (p : B → Bool) (test : List B → Bool) (words : List A) (r : Option (Bor (List A)))
    → option_map (λ x. x.now) r ≡ find (λ part. test (map f part)) (slice_split (λ x. p (f x)) words)
    → option_map (λ x. map f x.now) r ≡ find test (slice_split p (map f words))
find_read {A} f p test words r e = fused r ∙ ap (option_map (map f)) e ∙ find-map (map f) test (slice_split (λ x. p (f x)) words) ∙ ap (find test) (map-slice_split f p words)
  where
    fused : (o : Option (Bor (List A))) → option_map (λ x. map f x.now) o ≡ option_map (map f) (option_map (λ x. x.now) o)
    fused None = refl
    fused (Some x) = refl

-- ---- an element at a place

pub mapped_more : {A B : Type 0} (f : A → B) (ps : List A) (n : ℕ) (p : A) → n < length ps → p ≡ get_or ps n p → map f (take (n + 1) ps) ≡ map f (take n ps) ++ f p ∷ []
mapped_more f ps n p l e = ap (map f) (take_more ps n p l) ∙ map-append f (take n ps) (get_or ps n p ∷ []) ∙ ap (λ x. map f (take n ps) ++ f x ∷ []) (sym e)

-- no element that stands for a missing one is read there
pub got_there : {A : Type 0} (ps : List A) (n : ℕ) (d e : A) → n < length ps → get_or ps n d ≡ get_or ps n e
got_there [] n d e l = absurd (omega arith)
got_there (x ∷ ps) zero d e l = refl
got_there (x ∷ ps) (suc n) d e l = got_there ps n d e (omega arith)

-- what is before it and after it
pub mapped_at : {A B : Type 0} (f : A → B) (ps : List A) (n : ℕ) (p : A) → n < length ps → p ≡ get_or ps n p
    → (rest : List B) × (map f ps ≡ map f (take n ps) ++ f p ∷ rest)
mapped_at f [] n p l e = absurd (omega arith)
mapped_at f (x ∷ ps) zero p l e = (map f ps, ap (λ y. f y ∷ map f ps) (sym e))
mapped_at f (x ∷ ps) (suc n) p l e = let more = mapped_at f ps n p (omega arith) e in (more.0, ap (λ t. f x ∷ t) more.1)

-- ---- tests

or_true : (a b : Bool) → b ≡ true → (a || b) ≡ true
or_true true b h = refl
or_true false b h = h

any_after : {X : Type 0} (test : X → Bool) (xs : List X) (x : X) (rest : List X) → test x ≡ true → list_any test (xs ++ x ∷ rest) ≡ true
any_after test [] x rest e = ap (λ b. b || list_any test rest) e
any_after test (y ∷ xs) x rest e = or_true (test y) (list_any test (xs ++ x ∷ rest)) (any_after test xs x rest e)

pub any_at : {A B : Type 0} (test : B → Bool) (f : A → B) (ps : List A) (n : ℕ) (p : A) → n < length ps → p ≡ get_or ps n p → test (f p) ≡ true → list_any test (map f ps) ≡ true
any_at test f ps n p l e is = let split = mapped_at f ps n p l e in rw split.1 (any_after test (map f (take n ps)) (f p) split.0 is)

-- the element at a place, read
at_place : {A B : Type 0} (f : A → B) (ps : List A) (n : ℕ) (p : A) → n < length ps → p ≡ get_or ps n p → get_or (map f ps) n (f p) ≡ f p
at_place f ps n p l e = get_or-map f ps n p (f p) l ∙ ap f (sym e)

within : {A B : Type 0} (f : A → B) (ps : List A) (n : ℕ) → n < length ps → n < length (map f ps)
within f ps n l = omega (arith, l, length-map ps f)

pub any_not : {A B : Type 0} (test : B → Bool) (f : A → B) (ps : List A) (n : ℕ) (p : A) → n < length ps → p ≡ get_or ps n p → test (f p) ≡ false
    → list_any test (take n (map f ps)) ≡ false → list_any test (take (n + 1) (map f ps)) ≡ false
any_not test f ps n p l e is none =
    list_any_more test (map f ps) n (f p) (within f ps n l) ∙ ap₂ (λ a b. a || b) none (ap test (at_place f ps n p l e) ∙ is)
