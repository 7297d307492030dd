-- Texts that are cut.
use Rattle.std.proofs.Common.{◌≡◌, ◌∙◌, ◌+◌, ◌<◌, ◌≤◌, ℕ, suc, Bool, true, false, List, [], ◌∷◌, ◌++◌, length, take, drop, drop-cons, get_or, append-nil, append_assoc, refl, sym, ap, arith, cond}
use Rattle.std.specs.Prelude.{codes, nat_eq}
use Rattle.std.specs.List.{onto_first, position_or_len, slice_split, starts_with}
use Rattle.std.proofs.lemmas.List.{take_more}
use Rattle.std.proofs.lemmas.List.Splits.{slice_split-cons_no, slice_split_first}
use Rattle.ndef_diagnostics.specs.Dumps.{before_gap}

-- ---- at the first element that passes a test

pub cut_here : (p : ℕ → Bool) (xs : List ℕ) → position_or_len p xs < length xs
    → slice_split p xs ≡ take (position_or_len p xs) xs ∷ slice_split p (drop (position_or_len p xs + 1) xs)
cut_here p xs some = slice_split_first p xs 0 some

-- none passes
none_of : (p : ℕ → Bool) (x : ℕ) (xs : List ℕ) (b : Bool) → p x ≡ b → length (x ∷ xs) ≤ position_or_len p (x ∷ xs)
    → (length xs ≤ position_or_len p xs → slice_split p xs ≡ xs ∷ []) → slice_split p (x ∷ xs) ≡ (x ∷ xs) ∷ []
none_of p x xs true e l rest = absurd (omega (arith, rw e at l))
none_of p x xs false e l rest = slice_split-cons_no p x xs e ∙ ap (onto_first x) (rest (omega (arith, rw e at l)))

pub cut_nowhere : (p : ℕ → Bool) (xs : List ℕ) → length xs ≤ position_or_len p xs → slice_split p xs ≡ xs ∷ []
cut_nowhere p [] l = refl
cut_nowhere p (x ∷ xs) l = none_of p x xs (p x) refl l (cut_nowhere p xs)

-- ---- at two spaces

gap_at : (text : List ℕ) → starts_with nat_eq text (codes "  ") ≡ true → before_gap text ≡ []
gap_at [] is = refl
gap_at (byte ∷ text) is = ap (λ b. cond b [] (byte ∷ before_gap text)) is

no_gap_at : (byte : ℕ) (text : List ℕ) → starts_with nat_eq (byte ∷ text) (codes "  ") ≡ false
    → before_gap (byte ∷ text) ≡ byte ∷ before_gap text
no_gap_at byte text is = ap (λ b. cond b [] (byte ∷ before_gap text)) is

-- one byte more
pub gap_more : (text : List ℕ) (n : ℕ) → n < length text → starts_with nat_eq (drop n text) (codes "  ") ≡ false
    → take n text ++ before_gap (drop n text) ≡ before_gap text
    → take (n + 1) text ++ before_gap (drop (n + 1) text) ≡ before_gap text
gap_more text n l none before =
    let x = get_or text n 0 in
    let e : drop n text ≡ x ∷ drop (suc n) text = drop-cons text n 0 l in
    let s : suc n ≡ n + 1 = omega arith in
    let rest : before_gap (drop n text) ≡ x ∷ before_gap (drop (suc n) text) =
    ap before_gap e ∙ no_gap_at x (drop (suc n) text) (ap (λ (t : List ℕ). starts_with nat_eq t (codes "  ")) (sym e) ∙ none) in
    ap (λ t. t ++ before_gap (drop (n + 1) text)) (take_more text n 0 l) ∙ append_assoc (take n text) (x ∷ []) (before_gap (drop (n + 1) text))
    ∙ ap (λ k. take n text ++ x ∷ before_gap (drop k text)) (sym s) ∙ ap (λ t. take n text ++ t) (sym rest) ∙ before

-- two spaces
pub gap_found : (text : List ℕ) (n : ℕ) → starts_with nat_eq (drop n text) (codes "  ") ≡ true
    → take n text ++ before_gap (drop n text) ≡ before_gap text → take n text ≡ before_gap text
gap_found text n is before =
    sym (append-nil (take n text)) ∙ ap (λ t. take n text ++ t) (sym (gap_at (drop n text) is)) ∙ before
