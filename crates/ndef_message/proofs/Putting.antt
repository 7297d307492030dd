-- Octets put into a buffer one after another, as far as they fit.
use Rattle.std.proofs.Common.{◌≡◌, ℕ, ◌+◌, ◌-◌, ◌≤◌, min, List, [], ◌++◌, length, take, drop, refl, sym, ap, ap₂, ◌∙◌, inl, inr, arith, subst, length-append, length-take, length-drop, append-nil, append_assoc, take_at, drop_at, take_all}
use Rattle.std.proofs.lemmas.List.{take-append-drop, drop-drop, take-append-le, drop-append-le}
use Rattle.std.proofs.Math.ListN.{drop_of_length-le}
use Rattle.std.proofs.Math.Seq.{drop-append-add, take-append-add}
use Rattle.ndef_message.specs.CutLaws.{below_or_not}
use Rattle.ndef_message.specs.Machine.Stepping.{PutsAt}

-- ---- what is taken of two lists

pub drops : (n : ℕ) (xs ys : List ℕ) → drop n (xs ++ ys) ≡ drop n xs ++ drop (n - length xs) ys
drops n xs ys = elim (below_or_not n (length xs)) [
  | inl below ↦ let none : n - length xs ≡ 0 = omega arith in
      drop-append-le n xs ys (omega arith) ∙ ap (λ k. drop n xs ++ drop k ys) (sym none)
  | inr beyond ↦ let all : n ≡ length xs + (n - length xs) = omega arith in
      ap (λ k. drop k (xs ++ ys)) all ∙ drop-append-add xs ys (n - length xs)
      ∙ ap (λ l. l ++ drop (n - length xs) ys) (sym (drop_of_length-le xs beyond))
]

-- as much of both as there is space for
pub takes : (space n m : ℕ) (xs ys : List ℕ) → n ≡ min (length xs) space → m ≡ min (length ys) (space - n)
    → take n xs ++ take m ys ≡ take (n + m) (xs ++ ys)
takes space n m xs ys e f = elim (below_or_not space (length xs)) [
  | inl below ↦ let k : n + m ≡ n = omega (arith, e, f, below) in
      let none : m ≡ 0 = omega (arith, e, f, below) in
      ap (λ j. take n xs ++ take j ys) none ∙ append-nil (take n xs)
      ∙ sym (ap (λ j. take j (xs ++ ys)) k ∙ take-append-le n xs ys (omega (arith, e, below)))
  | inr fits ↦ let k : n ≡ length xs = omega (arith, e, fits) in
      ap (λ l. l ++ take m ys) (take_all n xs (omega (arith, k)))
      ∙ sym (ap (λ j. take (j + m) (xs ++ ys)) k ∙ take-append-add xs ys m)
]

-- ---- what is put

pub puts_on : {at i j : ℕ} {x y a b c : List ℕ} → PutsAt at x a b i → PutsAt (at + i) y b c j → PutsAt at (x ++ y) a c (i + j)
puts_on {at} {i} {j} {x} {y} {a} {b} {c} p q =
    let n = p.count_is in
    let m = q.count_is in
    let w = p.within in
    let l = length-append x y in
    let front = length-append (take at a) x in
    let t = length-take at a in
    let size : length (take at a ++ x) ≡ at + i = omega (arith, front, t, w, n) in
    let mid : b ≡ (take at a ++ x) ++ drop (at + i) a = p.is ∙ sym (append_assoc (take at a) x (drop (at + i) a)) in
    let before : take (at + i) b ≡ take at a ++ x = ap (take (at + i)) mid ∙ take_at (take at a ++ x) _ (at + i) size in
    let after : drop (at + i) b ≡ drop (at + i) a = ap (drop (at + i)) mid ∙ drop_at (take at a ++ x) _ (at + i) size in
    let beyond : drop (at + i + j) b ≡ drop (at + (i + j)) a =
    sym (drop-drop j (at + i) b) ∙ ap (drop j) after ∙ drop-drop j (at + i) a ∙ ap (λ k. drop k a) (let e : at + i + j ≡ at + (i + j) = omega arith in e) in
    let long = ap length mid in
    let rest = length-append (take at a ++ x) (drop (at + i) a) in
    let same : length b ≡ length a = omega (arith, long, rest, size, length-drop (at + i) a, w) in
    let v = q.within in
    record {
      count_is = omega (arith, n, m, l);
      within = omega (arith, v, same);
      is = q.is ∙ ap₂ (λ k l. k ++ (y ++ l)) before beyond ∙ append_assoc (take at a) x (y ++ drop (at + (i + j)) a)
          ∙ ap (λ l. take at a ++ l) (sym (append_assoc x y (drop (at + (i + j)) a)));
    }

put_size : {at i : ℕ} {x a b : List ℕ} → PutsAt at x a b i → length b ≡ length a
put_size {at} {i} {x} {a} {b} p =
    let n = p.count_is in
    let w = p.within in
    let e = ap length p.is in
    let front = length-append (take at a) (x ++ drop (at + i) a) in
    let mid = length-append x (drop (at + i) a) in
    let t = length-take at a in
    let d = length-drop (at + i) a in
    omega (arith, n, w, e, front, mid, t, d)

-- what is left of three texts, one after another
pub puts_rest : {at i j k : ℕ} {a b c d : List ℕ} (out : ℕ) (x y z : List ℕ)
    → PutsAt at (take i (drop out x)) a b i
    → PutsAt (at + i) (take j (drop (out - length x) y)) b c j
    → PutsAt (at + i + j) (take k (drop (out - length x - length y) z)) c d k
    → i ≡ min (length (drop out x)) (length a - at)
    → j ≡ min (length (drop (out - length x) y)) (length b - (at + i))
    → k ≡ min (length (drop (out - length x - length y) z)) (length c - (at + i + j))
    → PutsAt at (take (i + j + k) (drop out (x ++ (y ++ z)))) a d (i + j + k)
puts_rest {at} {i} {j} {k} {a} {b} {c} {d} out x y z p q r e f g =
    let u = drop out x in
    let v = drop (out - length x) y in
    let w = drop (out - length x - length y) z in
    let s1 = put_size p in
    let s2 = put_size q in
    let split : drop out (x ++ (y ++ z)) ≡ (u ++ v) ++ w =
    drops out x (y ++ z) ∙ ap (λ l. u ++ l) (drops (out - length x) y z) ∙ sym (append_assoc u v w) in
    let n = length-append u v in
    let two : take i u ++ take j v ≡ take (i + j) (u ++ v) =
    takes (length a - at) i j u v e (omega (arith, f, s1)) in
    let three : take (i + j) (u ++ v) ++ take k w ≡ take (i + j + k) ((u ++ v) ++ w) =
    takes (length a - at) (i + j) k (u ++ v) w (omega (arith, e, f, n, s1)) (omega (arith, g, s1, s2)) in
    subst (λ l. PutsAt at l a d (i + j + k)) (ap (λ l. l ++ take k w) two ∙ three ∙ ap (take (i + j + k)) (sym split))
    (puts_on (puts_on p q) (subst (λ n. PutsAt n (take k w) c d k) (let e : at + i + j ≡ at + (i + j) = omega arith in e) r))

pub puts_none : (at : ℕ) (a : List ℕ) → at ≤ length a → PutsAt at [] a a 0
puts_none at a h = let e : at ≡ at + 0 = omega arith in record {
  count_is = refl;
  within = omega (arith, h);
  is = sym (take-append-drop at a) ∙ ap (λ n. take at a ++ drop n a) e;
}

-- where no octet was put, all are as they were
pub nothing_put : {at : ℕ} {x a b : List ℕ} → PutsAt at x a b 0 → b ≡ a
nothing_put {at} {x} {a} {b} p =
    let n = p.count_is in
    let none : x ≡ [] = sym (take_all 0 x (omega (arith, n))) in
    let e : at + 0 ≡ at = omega arith in
    p.is ∙ ap₂ (λ l n. take at a ++ (l ++ drop n a)) none e ∙ take-append-drop at a

-- what was put at the front
pub front_put : {x a b : List ℕ} {n : ℕ} → PutsAt 0 x a b n → (take n b ≡ x) × (n ≤ length a) × (drop n b ≡ drop n a)
front_put {x} {a} {b} {n} p =
    let k = p.count_is in
    let w = p.within in
    let e : 0 + n ≡ n = omega arith in
    let is : b ≡ x ++ drop n a = p.is ∙ ap (λ k. x ++ drop k a) e in
    (ap (take n) is ∙ take_at x (drop n a) n (sym k), omega (arith, w), ap (drop n) is ∙ drop_at x (drop n a) n (sym k))
