-- The longest prefix that begins a text.
use Rattle.std.proofs.Common.{◌≡◌, ◌≢◌, ◌↔◌, ℕ, zero, suc, ◌+◌, ◌<◌, ◌≤◌, Bool, true, false, List, [], ◌∷◌, ◌++◌, length, take, drop, get_or, refl, sym, ◌∙◌, ap, subst, inl, inr, arith}
use Rattle.std.proofs.Math.Seq.{take-append_seam}
use Rattle.std.proofs.lemmas.Bool.{and_parts, cases_eq, cases_lt}
use Rattle.std.proofs.lemmas.List.{get_or_past, take-append-drop}
use Rattle.std.proofs.lemmas.Slice.Eq.{bytes_eq-Decides}
use Rattle.std.specs.List.{starts_with}
use Rattle.std.specs.Prelude.{IsTrue, bytes_eq, not, ◌&&◌, nat_eq}
use Rattle.ndef_types.specs.Prefixes.{prefixes, prefix_of, Begins, IsLongest}

pub reserved_prefix : (code : ℕ) → 36 ≤ code → prefix_of code ≡ []
unfolding prefix_of
reserved_prefix code l = get_or_past prefixes code [] l

-- ---- the prefixes differ

differs : List ℕ → List (List ℕ) → Bool
differs p [] = true
differs p (q ∷ qs) = not (bytes_eq p q) && differs p qs

all_differ : List (List ℕ) → Bool
all_differ [] = true
all_differ (p ∷ ps) = differs p ps && all_differ ps

prefixes_differ : all_differ prefixes ≡ true
unfolding all_differ differs
prefixes_differ = refl

differs_at : (p : List ℕ) (qs : List (List ℕ)) (j : ℕ) → differs p qs ≡ true → j < length qs → p ≡ get_or qs j [] → ⊥
unfolding differs
differs_at p [] j e l x = omega arith
differs_at p (q ∷ qs) zero e l x = let t = (bytes_eq-Decides p q).1 x in let u = (and_parts (not (bytes_eq p q)) (differs p qs) e).0 in let v : not (bytes_eq p q) ≡ false = rw t refl in cc
differs_at p (q ∷ qs) (suc j) e l x = differs_at p qs j (and_parts (not (bytes_eq p q)) (differs p qs) e).1 (omega arith) x

apart : (ps : List (List ℕ)) (i j : ℕ) → all_differ ps ≡ true → i < j → j < length ps → get_or ps i [] ≡ get_or ps j [] → ⊥
unfolding all_differ
apart [] i j e l m x = omega arith
apart (p ∷ ps) i zero e l m x = omega arith
apart (p ∷ ps) zero (suc j) e l m x = differs_at p ps j (and_parts (differs p ps) (all_differ ps) e).0 (omega arith) x
apart (p ∷ ps) (suc i) (suc j) e l m x = apart ps i j (and_parts (differs p ps) (all_differ ps) e).1 (omega arith) (omega arith) x

prefixes_apart : (i j : ℕ) → i < j → j < 36 → prefix_of i ≡ prefix_of j → ⊥
unfolding prefix_of
prefixes_apart i j l m x = apart prefixes i j prefixes_differ l m x

-- ---- a text that begins with one

pub begins_test : (text prefix : List ℕ) (r : Bool) → r ≡ starts_with nat_eq text prefix → IsTrue r ↔ Begins text prefix
begins_test text prefix r e =
    let d = bytes_eq-Decides prefix (take (length prefix) text) in (
      λ h. (drop (length prefix) text, sym (take-append-drop (length prefix) text) ∙ ap (λ p. p ++ drop (length prefix) text) (sym (d.0 (sym e ∙ h)))),
      λ h. e ∙ d.1 (sym (take-append_seam prefix h.0) ∙ ap (take (length prefix)) (sym h.1)),
    )

-- prefixes of one text that are equally long are equal
same_prefix : (text p q : List ℕ) → Begins text p → Begins text q → length p ≡ length q → p ≡ q
same_prefix text p q a b e =
    sym (take-append_seam p a.0) ∙ ap (take (length p)) (sym a.1) ∙ ap (λ n. take n text) e ∙ ap (take (length q)) b.1 ∙ take-append_seam q b.0

-- the longest prefix of the codes below n
pub record IsLongestBelow (text : List ℕ) (code n : ℕ) : Type 0 where
  pub below : code < n
  pub begins : Begins text (prefix_of code)
  pub longest : (other : ℕ) → other < n → Begins text (prefix_of other) → other ≢ code → length (prefix_of other) < length (prefix_of code)

pub first_longest : (text : List ℕ) → IsLongestBelow text 0 1
unfolding prefix_of
first_longest text = record { below = omega arith; begins = (text, refl); longest = λ other l b d. absurd (d (omega arith)) }

-- the next one is longer
pub longer_longest : (text : List ℕ) (code n : ℕ) → IsLongestBelow text code n → Begins text (prefix_of n) → length (prefix_of code) < length (prefix_of n) → IsLongestBelow text n (n + 1)
longer_longest text code n h b l = record { below = omega arith; begins = b; longest = longest }
  where
    longest : (other : ℕ) → other < n + 1 → Begins text (prefix_of other) → other ≢ n → length (prefix_of other) < length (prefix_of n)
    longest other m c d =
        elim (cases_eq other code) [
          | inl e ↦ rw e l
          | inr e ↦ let k = h.longest other (by_neq other m d) c e in omega arith
        ]
      where
        by_neq : (other : ℕ) → other < n + 1 → other ≢ n → other < n
        by_neq other m d = elim (cases_lt other n) [ inl x ↦ x | inr x ↦ absurd (d (omega arith)) ]

-- the next one is no longer
pub same_longest : (text : List ℕ) (code n : ℕ) → n < 36 → IsLongestBelow text code n → (Begins text (prefix_of n) → length (prefix_of n) ≤ length (prefix_of code)) → IsLongestBelow text code (n + 1)
same_longest text code n small h f = record { below = omega (arith, h.below); begins = h.begins; longest = longest }
  where
    longest : (other : ℕ) → other < n + 1 → Begins text (prefix_of other) → other ≢ code → length (prefix_of other) < length (prefix_of code)
    longest other m c d =
        elim (cases_lt other n) [
          | inl x ↦ h.longest other x c d
          | inr x ↦ at_n other (omega arith) c
        ]
      where
        at_n : (other : ℕ) → other ≡ n → Begins text (prefix_of other) → length (prefix_of other) < length (prefix_of code)
        at_n other e c =
            let b : Begins text (prefix_of n) = subst (λ k. Begins text (prefix_of k)) e c in
            rw e (elim (cases_lt (length (prefix_of n)) (length (prefix_of code))) [
              | inl y ↦ y
              | inr y ↦ absurd (prefixes_apart code n h.below small (same_prefix text (prefix_of code) (prefix_of n) h.begins b (omega (arith, f b))))
            ])

pub last_longest : (text : List ℕ) (code n : ℕ) → n ≡ 36 → IsLongestBelow text code n → IsLongest text code
last_longest text code n e h =
    let k : IsLongestBelow text code 36 = rw e at h in
    record { known = omega (arith, k.below); begins = k.begins; longest = λ other l. k.longest other (omega arith) }

-- ---- each text has one longest prefix

next_longest : (text : List ℕ) (code n : ℕ) → n < 36 → IsLongestBelow text code n → (r : Bool) → r ≡ starts_with nat_eq text (prefix_of n) → (next : ℕ) × IsLongestBelow text next (n + 1)
next_longest text code n l h true e =
    elim (cases_lt (length (prefix_of code)) (length (prefix_of n))) [
      | inl x ↦ (n, longer_longest text code n h ((begins_test text (prefix_of n) true e).0 refl) x)
      | inr x ↦ (code, same_longest text code n l h (λ b. x))
    ]
next_longest text code n l h false e =
    (code, same_longest text code n l h (λ b. let t : false ≡ true = (begins_test text (prefix_of n) false e).1 b in absurd (cc)))

longest_below : (text : List ℕ) (n m : ℕ) → m ≡ n + 1 → m ≤ 36 → (code : ℕ) × IsLongestBelow text code m
longest_below text zero m e l = (0, rw e (first_longest text))
longest_below text (suc n) m e l =
    let below = longest_below text n (n + 1) refl (omega arith) in
    let next = next_longest text below.0 (n + 1) (omega arith) below.1 _ refl in
    let f : m ≡ n + 1 + 1 = omega arith in
    (next.0, subst (IsLongestBelow text next.0) (sym f) next.1)

pub has_longest : (text : List ℕ) → (code : ℕ) × IsLongest text code
has_longest text = let below = longest_below text 35 36 refl (omega arith) in (below.0, last_longest text below.0 36 refl below.1)

pub one_longest : (text : List ℕ) (a b : ℕ) → IsLongest text a → IsLongest text b → a ≡ b
one_longest text a b x y =
    elim (cases_eq a b) [
      | inl e ↦ e
      | inr e ↦ absurd (omega (arith, x.longest b y.known y.begins (λ p. e (sym p)), y.longest a x.known x.begins e))
    ]
