-- A list, cut at the first element that passes a test.
use Rattle.std.proofs.Common.{◌≡◌, ◌∙◌, ◌+◌, ◌-◌, ◌≤◌, ◌<◌, ℕ, Bool, true, false, List, [], ◌∷◌, Some, None, length, take, drop, refl, sym, ap, arith, cond, length-drop}
use Rattle.std.specs.Prelude.{nat_lt, position}
use Rattle.std.specs.List.{before_first, slice_split, onto_first, position_or_len}
use Rattle.std.proofs.lemmas.Bool.{ltb-true, ltb-false}
use Rattle.std.proofs.lemmas.List.{take_all}
use Rattle.std.proofs.lemmas.Option.{cond_some, none-some}
use Rattle.std.proofs.lemmas.List.Splits.{slice_split-cons_no, slice_split_first}

-- where none passes, it is the only part
none_of : {X : Type 0} (p : X → Bool) (x : X) (xs : List X) (b : Bool) → p x ≡ b
    → length (x ∷ xs) ≤ position_or_len p (x ∷ xs)
    → (length xs ≤ position_or_len p xs → slice_split p xs ≡ xs ∷ []) → slice_split p (x ∷ xs) ≡ (x ∷ xs) ∷ []
none_of p x xs true e l rest = absurd (omega (arith, rw e at l))
none_of p x xs false e l rest = slice_split-cons_no p x xs e ∙ ap (onto_first x) (rest (omega (arith, rw e at l)))

split_none : {X : Type 0} (p : X → Bool) (xs : List X) → length xs ≤ position_or_len p xs → slice_split p xs ≡ xs ∷ []
split_none p [] l = refl
split_none p (x ∷ xs) l = none_of p x xs (p x) refl l (split_none p xs)

-- ---- where one passes

first_place : {X : Type 0} (p : X → Bool) (xs : List X) (n : ℕ) → Some n ≡ position p xs
    → (position_or_len p xs < length xs) × (n ≡ position_or_len p xs)
first_place p xs n h =
    let some = cond_some (nat_lt (position_or_len p xs) (length xs)) (position_or_len p xs) n (sym h) in
    (ltb-true (position_or_len p xs) (length xs) some.0, sym some.1)

-- the part before it
pub cut_front : {X : Type 0} (p : X → Bool) (xs : List X) (n : ℕ) → Some n ≡ position p xs
    → take n xs ≡ before_first p xs
cut_front p xs n h = ap (λ k. take k xs) (first_place p xs n h).1

rest_after : {X : Type 0} (xs : List X) (n : ℕ) → take (length xs - (n + 1)) (drop (n + 1) xs) ≡ drop (n + 1) xs
rest_after xs n = take_all (length xs - (n + 1)) (drop (n + 1) xs) (omega (arith, length-drop (n + 1) xs))

-- it is the first part, and after it are the others
pub cut_parts : {X : Type 0} (p : X → Bool) (xs : List X) (n : ℕ) (d : X) → Some n ≡ position p xs
    → slice_split p xs ≡ take n xs ∷ slice_split p (take (length xs - (n + 1)) (drop (n + 1) xs))
cut_parts p xs n d h =
    let place = first_place p xs n h in
    slice_split_first p xs d place.0 ∙ ap (λ k. take k xs ∷ slice_split p (drop (k + 1) xs)) (sym place.1)
    ∙ ap (λ rest. take n xs ∷ slice_split p rest) (sym (rest_after xs n))

-- ---- where none passes

no_place : {X : Type 0} (p : X → Bool) (xs : List X) → None ≡ position p xs → length xs ≤ position_or_len p xs
no_place {X} p xs h = go (nat_lt (position_or_len p xs) (length xs)) refl
  where
    go : (b : Bool) → nat_lt (position_or_len p xs) (length xs) ≡ b → length xs ≤ position_or_len p xs
    go true e = absurd (none-some (position_or_len p xs) (h ∙ ap (λ c. cond c (Some (position_or_len p xs)) None) e))
    go false e = ltb-false (position_or_len p xs) (length xs) e

pub uncut_parts : {X : Type 0} (p : X → Bool) (xs : List X) → None ≡ position p xs → slice_split p xs ≡ xs ∷ []
uncut_parts p xs h = split_none p xs (no_place p xs h)

pub uncut_front : {X : Type 0} (p : X → Bool) (xs : List X) → None ≡ position p xs → xs ≡ before_first p xs
uncut_front p xs h = sym (take_all (position_or_len p xs) xs (no_place p xs h))
