-- The effect of octets that are stepped at once.
use Rattle.std.proofs.Common.{suc, Fits, w8, ◌≡◌, ℕ, ◌+◌, ◌-◌, ◌<◌, ◌≤◌, List, [], ◌∷◌, ◌++◌, length, get_or, take, drop, sym, ◌∙◌, ap, subst, arith, append_assoc, length-drop}
use Rattle.std.proofs.lemmas.List.{append-nil, take_rest, get_or-drop, take-append-drop, take-take, drop-take, take_more, take_all}
use Rattle.ndef_value.specs.ListLaws.{octets_append, octets_back}
use Rattle.ndef_format.specs.Records.{AreOctets}
use Rattle.ndef_format.specs.declared.reason.Reason.{Reason}
use Rattle.ndef_lang.specs.LengthLaws.{some_octets}
use Rattle.ndef_lang.specs.Language.{Continues, Reaches, PassesBetween, After, StepsAll, StepsFront}
use Rattle.ndef_format.specs.Reasons.{IsLowest}

pub follows_none : (future : List ℕ → Type 0) → Continues future future []
follows_none future r = (λ h. h, λ h. h)

-- the octets t after the octets s
pub follows_more : (old mid new : List ℕ → Type 0) (s t : List ℕ) → Continues old mid s → Continues mid new t
    → Continues old new (s ++ t)
follows_more old mid new s t f g r = rw append_assoc (λ x. (f (t ++ r)).0 ((g r).0 x), λ x. (g r).1 ((f (t ++ r)).1 x))

pub reaches_none : (reached : List ℕ → Type 0) → Reaches reached reached []
reaches_none reached s h = subst reached (sym (append-nil s)) h

pub reaches_more : (old mid new : List ℕ → Type 0) (s t : List ℕ) → Reaches old mid s → Reaches mid new t
    → Reaches old new (s ++ t)
reaches_more old mid new s t f g u h = subst new (append_assoc u s t) (g (u ++ s) (f u h))

-- ---- one octet more

pub follows_take : (old mid new : List ℕ → Type 0) (bytes : List ℕ) (at : ℕ) → at < length bytes
    → Continues old mid (take at bytes) → Continues mid new (get_or bytes at 0 ∷ [])
    → Continues old new (take (at + 1) bytes)
follows_take old mid new bytes at l f g = subst (Continues old new) (sym (take_more bytes at 0 l))
    (follows_more old mid new (take at bytes) (get_or bytes at 0 ∷ []) f g)

pub reaches_take : (old mid new : List ℕ → Type 0) (bytes : List ℕ) (at : ℕ) → at < length bytes
    → Reaches old mid (take at bytes) → Reaches mid new (get_or bytes at 0 ∷ []) → Reaches old new (take (at + 1) bytes)
reaches_take old mid new bytes at l f g = subst (Reaches old new) (sym (take_more bytes at 0 l))
    (reaches_more old mid new (take at bytes) (get_or bytes at 0 ∷ []) f g)

-- ---- octets that are left

-- the octets after n of them, as `&bytes[n..]` is read
abbrev pub rest : List ℕ → ℕ → List ℕ
rest bytes n = take (length bytes - n) (drop n bytes)

pub take_parts : (bytes : List ℕ) (n m : ℕ) → take (n + m) bytes ≡ take n bytes ++ take m (drop n bytes)
take_parts bytes n m = sym (take-append-drop n (take (n + m) bytes))
    ∙ ap (λ x. x ++ drop n (take (n + m) bytes)) (take-take n (n + m) bytes (omega arith))
    ∙ ap (λ x. take n bytes ++ x) (drop-take n m bytes)

pub take_rests : (bytes : List ℕ) (n m : ℕ) → take n bytes ++ take m (rest bytes n) ≡ take (n + m) bytes
take_rests bytes n m = ap (λ x. take n bytes ++ take m x) (take_rest bytes n) ∙ sym (take_parts bytes n m)

-- their number
pub rest_length : (bytes : List ℕ) (n : ℕ) → length (rest bytes n) ≡ length bytes - n
rest_length bytes n = ap length (take_rest bytes n) ∙ length-drop n bytes

pub follows_rest : (old mid new : List ℕ → Type 0) (bytes : List ℕ) (n m : ℕ) → Continues old mid (take n bytes)
    → Continues mid new (take m (rest bytes n)) → Continues old new (take (n + m) bytes)
follows_rest old mid new bytes n m f g = subst (Continues old new) (take_rests bytes n m)
    (follows_more old mid new (take n bytes) (take m (rest bytes n)) f g)

pub reaches_rest : (old mid new : List ℕ → Type 0) (bytes : List ℕ) (n m : ℕ) → Reaches old mid (take n bytes)
    → Reaches mid new (take m (rest bytes n)) → Reaches old new (take (n + m) bytes)
reaches_rest old mid new bytes n m f g = subst (Reaches old new) (take_rests bytes n m)
    (reaches_more old mid new (take n bytes) (take m (rest bytes n)) f g)

-- ---- what passes after octets

pub passes_after : (old new : List ℕ → Type 0) (s : List ℕ) (lo hi : ℕ) → Continues old new s → PassesBetween new lo hi
    → PassesBetween (After old s) lo hi
passes_after old new s lo hi f p = record {
  rest = p.rest;
  passed = (f p.rest).0 p.passed;
  least = p.least;
  most = p.most;
}

pub after_passes : (old new : List ℕ → Type 0) (s : List ℕ) (lo hi : ℕ) → Continues old new s
    → PassesBetween (After old s) lo hi → PassesBetween new lo hi
after_passes old new s lo hi f p = record {
  rest = p.rest;
  passed = (f p.rest).1 p.passed;
  least = p.least;
  most = p.most;
}

-- before the first octet
pub passes_none : {future : List ℕ → Type 0} {lo hi : ℕ} → PassesBetween future lo hi
    → PassesBetween future (lo - 0) (hi - 0)
passes_none {future} {lo} {hi} p = let least = p.least in let most = p.most
    in record { rest = p.rest; passed = p.passed; least = omega arith; most = omega arith }

-- what passes still passes after a front
pub front_passes : (old new : List ℕ → Type 0) (bytes : List ℕ) (lo hi n m : ℕ) → length bytes ≤ lo → n ≤ length bytes
    → StepsFront old new (rest bytes n) m → PassesBetween old (lo - n) (hi - n)
    → PassesBetween new (lo - (n + m)) (hi - (n + m))
front_passes old new bytes lo hi n m few l f p =
    let within = f.within in
    let e : lo - n - m ≡ lo - (n + m) = omega arith in
    let g : hi - n - m ≡ hi - (n + m) = omega arith in
    subst (λ a. PassesBetween new a (hi - (n + m))) e
    (subst (λ b. PassesBetween new (lo - n - m) b) g
    (f.fits (lo - n) (hi - n) (omega (arith, rest_length bytes n)) p))

-- ---- all octets, or up to one

-- all of them were stepped
pub steps_whole : (old new : List ℕ → Type 0) (bytes : List ℕ) (lo hi : ℕ) → Continues old new bytes
    → PassesBetween new (lo - length bytes) (hi - length bytes) → StepsAll old new bytes lo hi (length bytes)
steps_whole old new bytes lo hi f p = record {
  within = omega arith;
  stepped = subst (Continues old new) (sym (take_all (length bytes + 1) bytes (omega arith))) f;
  fits = subst (λ s. PassesBetween (After old s) (lo - length bytes) (hi - length bytes))
      (sym (take_all (length bytes) bytes (omega arith)))
      (passes_after old new bytes (lo - length bytes) (hi - length bytes) f p);
  refused = λ l. absurd (omega arith);
}

-- one of them is refused, those before it were stepped
pub steps_refused : (old mid new : List ℕ → Type 0) (bytes : List ℕ) (lo hi at : ℕ) → at < length bytes
    → Continues old mid (take at bytes) → PassesBetween mid (lo - at) (hi - at)
    → Continues mid new (get_or bytes at 0 ∷ [])
    → (PassesBetween new (lo - (at + 1)) (hi - (at + 1)) → ⊥) → StepsAll old new bytes lo hi at
steps_refused old mid new bytes lo hi at l f p g bad = record {
  within = omega arith;
  stepped = follows_take old mid new bytes at l f g;
  fits = passes_after old mid (take at bytes) (lo - at) (hi - at) f p;
  refused = λ _. bad;
}

-- ---- in two parts

pub steps_on : (old mid new : List ℕ → Type 0) (bytes : List ℕ) (lo hi n k : ℕ) → n ≤ length bytes
    → Continues old mid (take n bytes) → StepsAll mid new (rest bytes n) (lo - n) (hi - n) k
    → StepsAll old new bytes lo hi (n + k)
steps_on old mid new bytes lo hi n k l f t =
    let s : StepsAll mid new (drop n bytes) (lo - n) (hi - n) k = subst (λ x. StepsAll mid new x (lo - n) (hi - n) k)
    (take_rest bytes n) t in
    let within = s.within in
    let count = length-drop n bytes in
    let e0 : take n bytes ++ take (k + 1) (drop n bytes) ≡ take (n + k + 1) bytes = sym (take_parts bytes n (k + 1))
    ∙ ap (λ i. take i bytes) (let e : n + (k + 1) ≡ n + k + 1 = omega arith in e) in
    let e1 : take n bytes ++ take k (drop n bytes) ≡ take (n + k) bytes = sym (take_parts bytes n k) in
    record {
      within = omega arith;
      stepped = subst (Continues old new) e0 (follows_more old mid new (take n bytes)
          (take (k + 1) (drop n bytes)) f s.stepped);
      fits = at_sum (lo - n - k) (hi - n - k) (lo - (n + k)) (hi - (n + k)) (omega arith) (omega arith)
          (subst (λ x. PassesBetween (After old x) (lo - n - k) (hi - n - k)) e1 (twice_after s.fits));
      refused = λ h p. s.refused (omega arith) (at_sum (lo - (n + k + 1)) (hi - (n + k + 1)) (lo - n - (k + 1))
          (hi - n - (k + 1)) (omega arith) (omega arith) p);
    }
  where
    at_sum : {future : List ℕ → Type 0} (a b c d : ℕ) → a ≡ c → b ≡ d → PassesBetween future a b
        → PassesBetween future c d
    at_sum {future} a b c d e g p = subst (λ x. PassesBetween future c x) g (subst (λ x. PassesBetween future x b) e p)

    twice_after : PassesBetween (After mid (take k (drop n bytes))) (lo - n - k) (hi - n - k)
        → PassesBetween (After old (take n bytes ++ take k (drop n bytes))) (lo - n - k) (hi - n - k)
    twice_after p = record {
      rest = p.rest;
      passed = subst old (sym (append_assoc (take n bytes) (take k (drop n bytes)) p.rest))
          ((f (take k (drop n bytes) ++ p.rest)).0 p.passed);
      least = p.least;
      most = p.most;
    }

pub reaches_on : (old mid new : List ℕ → Type 0) (bytes : List ℕ) (n k : ℕ) → Reaches old mid (take n bytes)
    → Reaches mid new (take (k + 1) (rest bytes n)) → Reaches old new (take (n + k + 1) bytes)
reaches_on old mid new bytes n k f g = subst (λ i. Reaches old new (take i bytes))
    (let e : n + (k + 1) ≡ n + k + 1 = omega arith in e) (reaches_rest old mid new bytes n (k + 1) f g)

pub reason_on : (holds : List ℕ → ℕ → Reason → Type 0) (reason : Reason) (bytes s : List ℕ) (n k : ℕ)
    → IsLowest (holds ((s ++ take n bytes) ++ take k (rest bytes n)) (get_or (rest bytes n) k 0)) reason
    → IsLowest (holds (s ++ take (n + k) bytes) (get_or bytes (n + k) 0)) reason
reason_on holds reason bytes s n k h =
    let h1 = subst (λ x. IsLowest (holds ((s ++ take n bytes) ++ take k x) (get_or x k 0)) reason)
    (take_rest bytes n) h in
    let e : (s ++ take n bytes) ++ take k (drop n bytes) ≡ s
    ++ take (n + k) bytes = append_assoc s (take n bytes) (take k (drop n bytes))
    ∙ ap (λ x. s ++ x) (sym (take_parts bytes n k)) in
    subst (λ b. IsLowest (holds (s ++ take (n + k) bytes) b) reason) (get_or-drop n bytes k 0)
    (subst (λ x. IsLowest (holds x (get_or (drop n bytes) k 0)) reason) e h1)

-- ---- up to the end

-- all of them were stepped
pub steps_through : (old new : List ℕ → Type 0) (bytes : List ℕ) (lo hi at : ℕ) → at ≡ length bytes
    → Continues old new (take at bytes) → PassesBetween new (lo - at) (hi - at) → StepsAll old new bytes lo hi at
steps_through old new bytes lo hi at e f p = record {
  within = omega arith;
  stepped = follows_all;
  fits = passes_after old new (take at bytes) (lo - at) (hi - at) f p;
  refused = λ l. absurd (omega arith);
}
  where
    follows_all : Continues old new (take (at + 1) bytes)
    follows_all = subst (Continues old new) (take_all at bytes (omega arith)
        ∙ sym (take_all (at + 1) bytes (omega arith))) f

-- nothing follows them
pub all_reached : (old new : List ℕ → Type 0) (bytes : List ℕ) (at : ℕ) → length bytes ≤ at
    → Reaches old new (take at bytes) → Reaches old new (take (at + 1) bytes)
all_reached old new bytes at l r = subst (Reaches old new)
    (take_all at bytes (omega arith) ∙ sym (take_all (at + 1) bytes (omega arith))) r

-- ---- octets

-- a slice is octets
pub octets_each : (xs : List ℕ) → ((i : ℕ) → Fits w8 (get_or xs i 0)) → AreOctets xs
octets_each [] h = tt
octets_each (x ∷ xs) h = (omega (arith, h 0), octets_each xs (λ i. h (suc i)))

pub octets_follow : (s : List ℕ) → AreOctets s → Continues AreOctets AreOctets s
octets_follow s a r = (octets_append s r a, octets_back s r)

-- any octets may follow any octets
pub steps_octets : (bytes : List ℕ) (lo hi : ℕ) → AreOctets bytes → length bytes ≤ lo → PassesBetween AreOctets lo hi
    → StepsAll AreOctets AreOctets bytes lo hi (length bytes)
steps_octets bytes lo hi a l p =
    let least = p.least in
    let most = p.most in
    let t = some_octets (hi - length bytes) in
    steps_whole AreOctets AreOctets bytes lo hi (octets_follow bytes a)
    (record { rest = t.0; passed = t.1.0; least = omega (arith, t.1.1); most = omega (arith, t.1.1) })

-- where all octets were stepped
pub steps_done : {old new : List ℕ → Type 0} {bytes : List ℕ} {lo hi count : ℕ} → StepsAll old new bytes lo hi count
    → count ≡ length bytes → Continues old new bytes × PassesBetween new (lo - length bytes) (hi - length bytes)
steps_done {old} {new} {bytes} {lo} {hi} {count} s e =
    let f : Continues old new bytes = subst (Continues old new) (take_all (count + 1) bytes (omega arith)) s.stepped in
    let p : PassesBetween (After old bytes) (lo - count) (hi - count) = subst
    (λ x. PassesBetween (After old x) (lo - count) (hi - count)) (take_all count bytes (omega arith)) s.fits in
    (f, subst (λ n. PassesBetween new (lo - n) (hi - n)) e (after_passes old new bytes (lo - count) (hi - count) f p))
