-- An array that is filled from its front.
use Rattle.std.proofs.Common.{◌≡◌, ℕ, ◌+◌, ◌<◌, ◌≤◌, List, [], ◌∷◌, ◌++◌, length, length-append, length-drop, drop, drop_at, take, take_at, refl, sym, ◌∙◌, ap, subst, arith}
use Rattle.std.specs.Prelude.{slice_set}
use Rattle.ndef_c.specs.Arrays.{EachAt, GivesMany, set_over}
use Rattle.ndef_c.specs.declared.status.TheConstants.{OK, BUFFER_TOO_SMALL}

at_end : {T : Type 0} (done : List T) (x : T) (before : List T) → length done < length before → slice_set (set_over done before) (length done) x ≡ set_over (done ++ x ∷ []) before
at_end [] x [] h = absurd (omega (arith, h))
at_end [] x (b ∷ before) h = refl
at_end (d ∷ done) x [] h = absurd (omega (arith, h))
at_end (d ∷ done) x (b ∷ before) h = ap (λ xs. d ∷ xs) (at_end done x before (omega (arith, h)))

-- one more element
pub filled_on : {T : Type 0} (done : List T) (x : T) (before now : List T) (index : ℕ) → now ≡ set_over done before → index ≡ length done → length done < length before
    → slice_set now index x ≡ set_over (done ++ x ∷ []) before
filled_on done x before now index e n h = ap (λ xs. slice_set xs index x) e ∙ ap (λ k. slice_set (set_over done before) k x) n ∙ at_end done x before h

-- there is an element to write at an index after those that are done
pub element_at : {T : Type 0} (done before old : List T) (k : ℕ) → old ≡ set_over done before → length done ≤ k → k < length old → k < length before
element_at done before old k e n l =
    let m = ap length e ∙ length-append done (drop (length done) before) in
    let d = length-drop (length done) before in
    omega (arith, m, d, n, l)

-- what was written at its front, and what is after it
pub record Front {T : Type 0} (done before now : List T) (n : ℕ) : Type 0 where
  pub front : take n now ≡ done
  pub back : drop n now ≡ drop (length done) before

pub front_of : {T : Type 0} (done before now : List T) (n : ℕ) → now ≡ set_over done before → n ≡ length done → Front done before now n
front_of done before now n e k = record {
  front = ap (take n) e ∙ take_at done (drop (length done) before) n (sym k);
  back = ap (drop n) e ∙ drop_at done (drop (length done) before) n (sym k);
}

-- it keeps its length
pub length-set_over : {T : Type 0} (done before : List T) → length done ≤ length before → length (set_over done before) ≡ length before
length-set_over done before h =
    let n = length-append done (drop (length done) before) in
    let d = length-drop (length done) before in
    omega (arith, n, d, h)

-- one more of which this holds
pub each_more : {T : Type 0} (P : ℕ → T → Type 0) (from : ℕ) (xs : List T) (x : T) → EachAt P from xs → P (from + length xs) x → EachAt P from (xs ++ x ∷ [])
each_more P from [] x h p = let e : from + 0 ≡ from = omega arith in (subst (λ k. P k x) e p, tt)
each_more P from (y ∷ xs) x h p = let e : from + length (y ∷ xs) ≡ from + 1 + length xs = omega arith in (h.0, each_more P (from + 1) xs x h.1 (subst (λ k. P k x) e p))

-- an array that is too small is as it was
pub is_too_small : {T : Type 0} (holds : List T → Type 0) (many : ℕ) (old : List T) (count : ℕ) → count ≡ many → length old < count → GivesMany holds many old old count BUFFER_TOO_SMALL
is_too_small holds many old count n h = record { count_is = n; fits = λ l. absurd (omega (arith, n, h, l)); too_small = λ _. (refl, refl) }

-- one that is large enough is filled
pub is_enough : {T : Type 0} (holds : List T → Type 0) (many : ℕ) (old new : List T) (count : ℕ) → count ≡ many → count ≤ length old → (reported : List T) → holds reported → length reported ≡ many → new ≡ set_over reported old
    → GivesMany holds many old new count OK
is_enough holds many old new count n h reported are size e =
    record { count_is = n; fits = λ _. (refl, reported, are, size, e); too_small = λ l. absurd (omega (arith, n, h, l)) }
