-- Lists that begin alike, lists of octets, and what holds of each element.
use Rattle.std.proofs.Common.{◌≡◌, ℕ, zero, suc, ◌≤◌, ◌⊎◌, inl, inr, refl, sym, subst, arith, List, [], ◌∷◌, ◌++◌, length, take, drop}
use Rattle.std.specs.List.{AllByRecursion}
use Rattle.std.proofs.lemmas.List.{take-append-drop}
use Rattle.ndef_format.specs.Records.{AreOctets}

-- one list ends inside the other, or at its end
pub split_append : (p q l r : List ℕ) → p ++ q ≡ l ++ r
    → ((y : ℕ) × (m : List ℕ) × (p ≡ l ++ y ∷ m) × (r ≡ (y ∷ m) ++ q)) ⊎ ((m : List ℕ) × (l ≡ p ++ m) × (q ≡ m ++ r))
split_append [] q l r e = inr (l, refl, e)
split_append (x ∷ p) q [] r e = inl (x, p, refl, sym e)
split_append (x ∷ p) q (y ∷ l) r e =
    let ex : x ≡ y = cc in
    let et : p ++ q ≡ l ++ r = cc in
    elim (split_append p q l r et) [
      | inl w ↦ inl (w.0, w.1, (let ew = w.2 in cc), w.3)
      | inr w ↦ inr (w.0, (let ew = w.1 in cc), w.2)
    ]

-- a front that isn't longer than the first part lies in it
pub front_in : (p q l r : List ℕ) → p ++ q ≡ l ++ r → length l ≤ length p → (m : List ℕ) × (p ≡ l ++ m) × (r ≡ m ++ q)
front_in p q [] r e n = (p, refl, sym e)
front_in [] q (y ∷ l) r e n = absurd (omega arith)
front_in (x ∷ p) q (y ∷ l) r e n =
    let et : p ++ q ≡ l ++ r = cc in
    let w = front_in p q l r et (omega arith) in
    (w.0, (let ex : x ≡ y = cc in let ew = w.1 in cc), w.2)

-- fronts of one length are alike, and so is what follows them
pub cut_alike : (xs ys a b : List ℕ) → length xs ≡ length ys → xs ++ a ≡ ys ++ b → (xs ≡ ys) × (a ≡ b)
cut_alike [] [] a b n e = (refl, e)
cut_alike [] (y ∷ ys) a b n e = absurd (omega arith)
cut_alike (x ∷ xs) [] a b n e = absurd (omega arith)
cut_alike (x ∷ xs) (y ∷ ys) a b n e =
    let f : xs ++ a ≡ ys ++ b = cc in
    let w = cut_alike xs ys a b (omega arith) f in
    ((let g : x ≡ y = cc in let h = w.0 in cc), w.1)

pub octets_front : (xs ys : List ℕ) → AreOctets (xs ++ ys) → AreOctets xs
octets_front [] ys p = tt
octets_front (x ∷ xs) ys p = (p.0, octets_front xs ys p.1)

pub octets_back : (xs ys : List ℕ) → AreOctets (xs ++ ys) → AreOctets ys
octets_back [] ys p = p
octets_back (x ∷ xs) ys p = octets_back xs ys p.1

pub octets_append : (xs ys : List ℕ) → AreOctets xs → AreOctets ys → AreOctets (xs ++ ys)
octets_append [] ys p q = q
octets_append (x ∷ xs) ys p q = (p.0, octets_append xs ys p.1 q)

pub octets_taken : (n : ℕ) (xs : List ℕ) → AreOctets xs → AreOctets (take n xs)
octets_taken n xs p = octets_front (take n xs) (drop n xs) (subst AreOctets (sym (take-append-drop n xs)) p)

-- that number of 0 octets
unfoldable pub zeros : ℕ → List ℕ
zeros zero = []
zeros (suc n) = 0 ∷ zeros n

pub zeros_length : (n : ℕ) → length (zeros n) ≡ n
unfolding zeros
zeros_length zero = refl
zeros_length (suc n) = omega (arith, zeros_length n)

pub zeros_octets : (n : ℕ) → AreOctets (zeros n)
unfolding zeros
zeros_octets zero = tt
zeros_octets (suc n) = (omega arith, zeros_octets n)

-- -- properties of each element

pub all_front : {X : Type 0} (P : X → Type 0) (xs ys : List X) → AllByRecursion P (xs ++ ys) → AllByRecursion P xs
all_front P [] ys h = tt
all_front P (x ∷ xs) ys h = (h.0, all_front P xs ys h.1)

pub all_back : {X : Type 0} (P : X → Type 0) (xs ys : List X) → AllByRecursion P (xs ++ ys) → AllByRecursion P ys
all_back P [] ys h = h
all_back P (x ∷ xs) ys h = all_back P xs ys h.1

pub all_append : {X : Type 0} (P : X → Type 0) (xs ys : List X) → AllByRecursion P xs → AllByRecursion P ys
    → AllByRecursion P (xs ++ ys)
all_append P [] ys h k = k
all_append P (x ∷ xs) ys h k = (h.0, all_append P xs ys h.1 k)

-- what holds of each, and leads to more
pub all_more : {X : Type 0} (P Q : X → Type 0) (xs : List X) → ((x : X) → P x → Q x) → AllByRecursion P xs
    → AllByRecursion Q xs
all_more P Q [] f h = tt
all_more P Q (x ∷ xs) f h = (f x h.0, all_more P Q xs f h.1)
