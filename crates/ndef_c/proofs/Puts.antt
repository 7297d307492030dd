-- Bytes put into a buffer, one after another.
use Rattle.std.proofs.Common.{◌≡◌, ℕ, ◌+◌, ◌<◌, ◌≤◌, [], take, drop, refl, sym, ◌∙◌, ap, ap₂, subst, arith, List, ◌++◌, length, length-append, length-take, append_assoc, take_at, drop_at}
use Rattle.std.specs.Prelude.{IfNone, IfSome, None, Option, Some}
use Rattle.std.proofs.lemmas.List.{drop-drop, take-append-drop}
use Rattle.ndef_c.specs.Buffers.{Gives, IsPut, Puts}
use Rattle.ndef_c.specs.declared.out.Out.{Out}
use Rattle.ndef_c.specs.declared.status.TheConstants.{OK, BUFFER_TOO_SMALL}

pub put_on : (at next : ℕ) (xs ys old mid new : List ℕ) → at ≤ length old → IsPut at xs old mid → next ≡ at + length xs → IsPut next ys mid new → IsPut at (xs ++ ys) old new
put_on at next xs ys old mid new h p e q =
    let k = length-append (take at old) xs in
    let j = length-take at old in
    let n : length (take at old ++ xs) ≡ next = omega (arith, k, j, h, e) in
    let m : mid ≡ (take at old ++ xs) ++ drop (at + length xs) old = p.is ∙ sym (append_assoc (take at old) xs (drop (at + length xs) old)) in
    let t : take next mid ≡ take at old ++ xs = ap (take next) m ∙ take_at (take at old ++ xs) _ next n in
    let following : drop next mid ≡ drop (at + length xs) old = ap (drop next) m ∙ drop_at (take at old ++ xs) _ next n in
    let i = length-append xs ys in
    let end : at + length xs + length ys ≡ at + length (xs ++ ys) = omega (arith, i) in
    let d : drop (next + length ys) mid ≡ drop (at + length (xs ++ ys)) old =
    sym (drop-drop (length ys) next mid) ∙ ap (drop (length ys)) following ∙ drop-drop (length ys) (at + length xs) old ∙ ap (λ x. drop x old) end in
    record {
      is = q.is ∙ ap₂ (λ a b. a ++ (ys ++ b)) t d ∙ append_assoc (take at old) xs (ys ++ drop (at + length (xs ++ ys)) old)
          ∙ ap (λ x. take at old ++ x) (sym (append_assoc xs ys (drop (at + length (xs ++ ys)) old)));
    }

-- octets, and others after them
pub puts_on : {a b c : Out} {x y : List ℕ} → Puts a x b → Puts b y c → Puts a (x ++ y) c
puts_on {a} {b} {c} {x} {y} p q =
    let l = length-append x y in
    let s = p.size in
    let k = p.buffer in
    record {
      same_reference = q.same_reference ∙ p.same_reference;
      size = q.size ∙ p.size;
      buffer = k;
      at = λ h. let m = p.at h in let n = q.at (omega (arith, m)) in omega (arith, l, m, n);
      put = λ h. let m = p.at (omega (arith, h, k)) in put_on a.at b.at x y a.buffer.now b.buffer.now c.buffer.now (omega (arith, h)) (p.put (omega (arith, h, l))) (omega (arith, m, h, l, k)) (q.put (omega (arith, h, l, s, m)));
    }

-- the place after octets that are put, from a place on or from the front
pub put_to : {a b : Out} {xs : List ℕ} {n : ℕ} (at : ℕ) → a.at ≡ at → Puts a xs b → n ≡ b.at → at + length xs ≤ 18446744073709551615 → n ≡ at + length xs
put_to at e p n h = let to = p.at (omega (arith, e, h)) in omega (arith, e, to, n, h)

pub counted : {a b : Out} {xs : List ℕ} {n : ℕ} → a.at ≡ 0 → Puts a xs b → n ≡ b.at → length xs ≤ 18446744073709551615 → n ≡ length xs
counted e p is h = let to = p.at (omega (arith, e)) in omega (arith, e, to, is, h)

-- nothing was put
pub put_none : (at : ℕ) (old : List ℕ) → IsPut at [] old old
put_none at old = let e : at ≡ at + 0 = omega arith in record { is = sym (take-append-drop at old) ∙ ap (λ k. take at old ++ drop k old) e }

pub puts_none : (a : Out) → length a.buffer.now ≤ 18446744073709551615 → Puts a [] a
puts_none a h = record { same_reference = refl; size = refl; buffer = h; at = λ l. omega (arith, l); put = λ _. put_none a.at a.buffer.now }

-- what is written at a place of a buffer that is large enough is put there
pub put_at : {a b : Out} {xs : List ℕ} (at : ℕ) (old new : List ℕ) → a.at ≡ at → a.buffer.now ≡ old → b.buffer.now ≡ new → at + length xs ≤ length old → Puts a xs b → IsPut at xs old new
put_at {a} {b} {xs} at old new place buffer after h p =
    let size = ap length buffer in
    subst (IsPut at xs old) after (subst (λ r. IsPut at xs r b.buffer.now) buffer (subst (λ k. IsPut k xs a.buffer.now b.buffer.now) place (p.put (omega (arith, place, size, h)))))

-- what is written to the front of it is given
pub gives_puts : {a b : Out} {xs : List ℕ} (text old new : List ℕ) (count : ℕ) → xs ≡ text → count ≡ length xs → count ≤ length old → a.at ≡ 0 → a.buffer.now ≡ old → b.buffer.now ≡ new → Puts a xs b → Gives text old new count OK
gives_puts {a} {b} {xs} text old new count e n h at buffer after p =
    let k = ap length e in
    let size : 0 + length xs ≡ length text = omega (arith, k) in
    let put = put_at 0 old new at buffer after (omega (arith, n, h)) p in
    record {
      count_is = omega (arith, n, k);
      fits = λ _. (refl, put.is ∙ ap₂ (λ x m. x ++ drop m old) e size);
      too_small = λ l. absurd (omega (arith, n, k, h, l));
    }

-- what would be written was looked at before
pub some_of : {X N Q : Type 0} (r : Option X) → IfNone r N → ¬ N → IfSome r (λ _. Q) → Q
some_of None n h s = absurd (h n)
some_of (Some x) n h s = s

-- a buffer that is too small is as it was
pub no_room : (text old : List ℕ) (count : ℕ) → count ≡ length text → length old < length text → Gives text old old count BUFFER_TOO_SMALL
no_room text old count n h = record { count_is = n; fits = λ l. absurd (omega (arith, h, l)); too_small = λ _. (refl, refl) }
