-- The state of a reader, of which some bytes are shown.
use Rattle.std.proofs.Common.{◌≡◌, ◌<◌, ◌≤◌, ℕ, ◌+◌, ◌-◌, Bool, true, false, cond, List, [], Option, Some, None, length, length-drop, length-take, take, drop, slice_range, option_map, refl, sym, ap, ◌∙◌, subst, arith}
use Rattle.std.specs.Prelude.{IfSome, ◌||◌, not, nat_eq, nat_le}
use Rattle.std.specs.Bool.{Decides}
use Rattle.std.specs.Cmp.{unsigned_Decides}
use Rattle.std.specs.Cmp.Lexicographic.{pointwise_decides}
use Rattle.std.specs.Io.{StartsWith}
use Rattle.std.specs.Io.BufRead.{DropsConsumable}
use Rattle.std.specs.Io.KnownBytes.{Keeps}
use Rattle.std.specs.List.{starts_with}
use Rattle.std.specs.Option.{option_map_or}
use Rattle.std.proofs.KnownBytes.{Keeps-trans}
use Rattle.std.proofs.lemmas.Bool.Decides.{nat_tests}
use Rattle.std.proofs.lemmas.List.{drop-drop, drop-take}
use Rattle.std.proofs.lemmas.Option.{cond_some, none-some, same_Some}
use Rattle.ndef_message.specs.Machine.Readers.{Within, known_from, left_of}
use Rattle.ndef_message.specs.Sources.{Drops, Shows}

-- ---- known bytes

Keeps-from : (a b : Option (List ℕ)) → ((xs : List ℕ) → a ≡ Some xs → b ≡ Some xs) → Keeps a b
Keeps-from None b h = tt
Keeps-from (Some xs) None h = none-some xs (h xs refl)
Keeps-from (Some xs) (Some ys) h = same_Some ys xs (h xs refl)

Shows-from : (a : Option (List ℕ)) (s : List ℕ) → ((xs : List ℕ) → a ≡ Some xs → StartsWith xs s × (length s ≡ 0 → xs ≡ [])) → Shows a s
Shows-from None s h = tt
Shows-from (Some xs) s h = h xs refl

Drops-from : (a b : Option (List ℕ)) (n : ℕ) → ((xs : List ℕ) → a ≡ Some xs → b ≡ Some (drop n xs)) → Drops a b n
Drops-from None b n h = tt
Drops-from (Some xs) b n h = h xs refl

none_from : (a : Option (List ℕ)) → ((xs : List ℕ) → a ≡ Some xs → ⊥) → a ≡ None
none_from None h = refl
none_from (Some xs) h = absurd (h xs refl)

mapped : (p : ℕ) (r : Option (List ℕ)) (ys : List ℕ) → option_map (drop p) r ≡ Some ys → (xs : List ℕ) × (r ≡ Some xs) × (drop p xs ≡ ys)
mapped p None ys h = absurd (none-some ys h)
mapped p (Some xs) ys h = (xs, refl, same_Some (drop p xs) ys h)

pub Shows-kept : (a b : Option (List ℕ)) (s : List ℕ) → Keeps a b → Shows b s → Shows a s
Shows-kept None b s k h = tt
Shows-kept (Some xs) None s k h = absurd k
Shows-kept (Some xs) (Some ys) s k h = subst (λ (l : List ℕ). StartsWith l s × (length s ≡ 0 → l ≡ [])) k h

-- ---- bytes that begin with those shown

front-Decides : (xs s : List ℕ) → Decides (starts_with nat_eq xs s) (StartsWith xs s)
front-Decides xs s =
    let d = pointwise_decides unsigned_Decides s (take (length s) xs) in
    ((λ h. sym (d.0 h)), (λ h. d.1 (sym h)))

known_is : (known : Option (List ℕ)) (s ys : List ℕ) → known_from known s ≡ Some ys → (known ≡ Some ys) × StartsWith ys s
unfolding known_from
known_is None s ys h = absurd (none-some ys h)
known_is (Some xs) s ys h =
    let w = cond_some (starts_with nat_eq xs s) xs ys h in
    (ap (λ l. Some l) w.1, subst (λ (l : List ℕ). StartsWith l s) w.1 ((front-Decides xs s).0 w.0))

known_some : (xs s : List ℕ) → StartsWith xs s → known_from (Some xs) s ≡ Some xs
unfolding known_from
known_some xs s h = ap (λ b. cond b (Some xs) None) ((front-Decides xs s).1 h)

pub known_keeps : (known after : Option (List ℕ)) (s : List ℕ) → Keeps known after → Keeps (known_from known s) after
known_keeps known after s h = Keeps-trans _ _ _ (Keeps-from _ known (λ ys e. (known_is known s ys e).0)) h

pub known_shows : (known : Option (List ℕ)) (s : List ℕ) → 0 < length s → Shows (known_from known s) s
known_shows known s some = Shows-from _ s (λ ys e. ((known_is known s ys e).1, λ none. absurd (omega arith)))

-- ---- what is left

within_less : (limit : Option ℕ) (n most : ℕ) → n ≤ most → Within limit most → Within limit n
within_less None n most l h = tt
within_less (Some m) n most l h = omega arith

shown_within : (known r : Option (List ℕ)) (limit : Option ℕ) (n most : ℕ) → Keeps known r → n ≤ most → IfSome r (λ _. Within limit most) → IfSome known (λ _. Within limit n)
shown_within None r limit n most k l h = tt
shown_within (Some xs) None limit n most k l h = absurd k
shown_within (Some xs) (Some ys) limit n most k l h = within_less limit n most l h

-- a reader that may give up what is shown, or whose shown bytes are not fresh
fits-Decides : (limit : Option ℕ) (fresh : Bool) (n : ℕ) → Decides (option_map_or (λ m. nat_le n m || not fresh) limit true) (fresh ≡ true → Within limit n)
fits-Decides None fresh n = ((λ _ _. tt), λ _. refl)
fits-Decides (Some m) true n = ((λ h _. grind (arith, nat_tests)), λ h. let most = h refl in grind (arith, nat_tests))
fits-Decides (Some m) false n = ((λ _ e. absurd (let same = e in cc)), λ _. grind (arith, nat_tests))

left_if : (b : Bool) (known : Option (List ℕ)) (ys : List ℕ) → cond b known None ≡ Some ys → (b ≡ true) × (known ≡ Some ys)
left_if true known ys h = (refl, h)
left_if false known ys h = absurd (none-some ys h)

left_is : (r : Option (List ℕ)) (limit : Option ℕ) (fresh : Bool) (s : List ℕ) (p : ℕ) (ys : List ℕ) → left_of r limit fresh s p ≡ Some ys
    → (fresh ≡ true → Within limit (length s)) × (known_from (option_map (drop p) r) s ≡ Some ys)
unfolding left_of
left_is r limit fresh s p ys h =
    let w = left_if (option_map_or (λ m. nat_le (length s) m || not fresh) limit true) (known_from (option_map (drop p) r) s) ys h in
    ((fits-Decides limit fresh (length s)).0 w.0, w.1)

left_some : (xs : List ℕ) (limit : Option ℕ) (fresh : Bool) (s : List ℕ) (p : ℕ) → StartsWith (drop p xs) s → (fresh ≡ true → Within limit (length s)) → left_of (Some xs) limit fresh s p ≡ Some (drop p xs)
unfolding left_of
left_some xs limit fresh s p begins within =
    ap (λ b. cond b (known_from (Some (drop p xs)) s) None) ((fits-Decides limit fresh (length s)).1 within) ∙ known_some (drop p xs) s begins

pub left_keeps : (r : Option (List ℕ)) (limit : Option ℕ) (fresh : Bool) (s : List ℕ) (p : ℕ) → Keeps (left_of r limit fresh s p) (known_from (option_map (drop p) r) s)
left_keeps r limit fresh s p = Keeps-from _ _ (λ ys e. (left_is r limit fresh s p ys e).1)

pub left_kept : (r after : Option (List ℕ)) (limit : Option ℕ) (fresh : Bool) (s : List ℕ) (p : ℕ) → Keeps (known_from (option_map (drop p) r) s) after → Keeps (left_of r limit fresh s p) after
left_kept r after limit fresh s p h = Keeps-trans _ _ _ (left_keeps r limit fresh s p) h

-- what is left is what the reader has, once it has settled
pub settled : (r after : Option (List ℕ)) (limit : Option ℕ) (fresh : Bool) (s : List ℕ) (p : ℕ) → Keeps (option_map (drop p) r) after → Keeps (left_of r limit fresh s p) after
settled r after limit fresh s p h = left_kept r after limit fresh s p (known_keeps _ after s h)

-- where nothing is pending, what is left is what the reader has
pub left_after : (r : Option (List ℕ)) (limit : Option ℕ) (fresh : Bool) (s : List ℕ) (p : ℕ) → p ≡ 0 → Keeps (left_of r limit fresh s p) r
left_after r limit fresh s p none = settled r r limit fresh s p (Keeps-from _ r (λ ys e.
    let w = mapped p r ys e in
    w.1 ∙ ap (λ l. Some l) (ap (λ n. drop n w.0) (sym none) ∙ w.2)))

-- where nothing is shown, what is left is what the reader has
pub left_at_first : (r : Option (List ℕ)) (limit : Option ℕ) → left_of r limit false [] 0 ≡ r
left_at_first None limit = none_from _ (λ ys e. none-some ys (known_is None [] ys (left_is None limit false [] 0 ys e).1).0)
left_at_first (Some xs) limit = left_some xs limit false [] 0 refl (λ e. absurd (let same = e in cc))

-- ---- what is shown next

left_shown : (known after : Option (List ℕ)) (limit : Option ℕ) (s : List ℕ) → Keeps known after → Shows known s → IfSome known (λ _. Within limit (length s)) → Keeps known (left_of after limit true s 0)
left_shown None after limit s k h w = tt
left_shown (Some xs) None limit s k h w = absurd k
left_shown (Some xs) (Some ys) limit s k h w =
    let begins : StartsWith ys s = subst (λ (l : List ℕ). StartsWith l s) (sym k) h.0 in
    subst (Keeps (Some xs)) (sym (left_some ys limit true s 0 begins (λ _. w))) k

-- what was shown of known bytes is shown again, where the reader still shows as many
pub left_shown_again : (known r after : Option (List ℕ)) (limit : Option ℕ) (s : List ℕ) (n : ℕ) → Keeps known r → Keeps r after → 0 < length s → length s ≤ n → IfSome r (λ _. Within limit n)
    → Keeps (known_from known s) (left_of after limit true s 0)
left_shown_again known r after limit s n k h some fits within =
    let kept = known_keeps known r s k in
    left_shown _ after limit s (Keeps-trans _ r after kept h) (known_shows known s some) (shown_within _ r limit (length s) n kept fits within)

-- the front of what the reader shows is shown
pub shows_anew : (known r : Option (List ℕ)) (before s : List ℕ) → Keeps known r → Shows r s → Shows (known_from known before) s
shows_anew known r before s k front = Shows-kept _ r s (known_keeps known r before k) front

pub left_shown_anew : (known r after : Option (List ℕ)) (limit : Option ℕ) (before s : List ℕ) (n : ℕ) → Keeps known r → Keeps r after → Shows r s → length s ≤ n → IfSome r (λ _. Within limit n)
    → Keeps (known_from known before) (left_of after limit true s 0)
left_shown_anew known r after limit before s n k h front fits within =
    let kept = known_keeps known r before k in
    left_shown _ after limit s (Keeps-trans _ r after kept h) (shows_anew known r before s k front) (shown_within _ r limit (length s) n kept fits within)

-- ---- a part of the copy

pub length-slice_range : (copy : List ℕ) (start end : ℕ) → end ≤ length copy → length (slice_range copy start end) ≡ end - start
length-slice_range copy start end h = simp (length-take, length-drop) (omega arith)

pub slice_range_fits : (copy : List ℕ) (start end : ℕ) → length (slice_range copy start end) ≤ end - start
slice_range_fits copy start end = simp (length-take, length-drop) (omega arith)

pub slice_range_more : (copy : List ℕ) (start end n : ℕ) → n ≤ end - start → slice_range copy (start + n) end ≡ drop n (slice_range copy start end)
slice_range_more copy start end n h =
    let m = end - start - n in
    let less : end - (start + n) ≡ m = omega arith in
    let more : n + m ≡ end - start = omega arith in
    ap (λ k. take k (drop (start + n) copy)) less ∙ ap (take m) (sym (drop-drop n start copy)) ∙ sym (drop-take n m (drop start copy)) ∙ ap (λ k. drop n (take k (drop start copy))) more

-- ---- a take

front_more : (xs s : List ℕ) (n : ℕ) → n ≤ length s → StartsWith xs s → StartsWith (drop n xs) (drop n s)
front_more xs s n h begins =
    let m = length s - n in
    let more : n + m ≡ length s = omega arith in
    ap (λ k. take k (drop n xs)) (length-drop n s) ∙ sym (drop-take n m xs) ∙ ap (λ k. drop n (take k xs)) more ∙ ap (drop n) begins

-- some of the bytes shown are taken
left_more : (xs ys s : List ℕ) (limit : Option ℕ) (fresh : Bool) (p n : ℕ) → fresh ≡ false → n ≤ length s → StartsWith ys s → drop p xs ≡ drop n ys → left_of (Some xs) limit fresh (drop n s) p ≡ Some (drop n ys)
left_more xs ys s limit fresh p n stale h begins e =
    let still : StartsWith (drop p xs) (drop n s) = subst (λ (l : List ℕ). StartsWith l (drop n s)) (sym e) (front_more ys s n h begins) in
    left_some xs limit fresh (drop n s) p still (λ is_fresh. absurd (let a = stale in let b = is_fresh in cc)) ∙ ap (λ l. Some l) e

-- they are consumed at once
pub take_consumes : (r after : Option (List ℕ)) (limit later : Option ℕ) (fresh : Bool) (s : List ℕ) (p n : ℕ) → fresh ≡ true → n ≤ length s → DropsConsumable r after limit n
    → Drops (left_of r limit fresh s p) (left_of after later false (drop n s) p) n
take_consumes r after limit later fresh s p n is_fresh h d = Drops-from _ _ n (λ ys e.
    let w = left_is r limit fresh s p ys e in
    let k = known_is (option_map (drop p) r) s ys w.1 in
    let m = mapped p r ys k.0 in
    let lost : after ≡ Some (drop n m.0) = subst (λ o. DropsConsumable o after limit n) m.1 d (within_less limit n (length s) h (w.0 is_fresh)) in
    let order : n + p ≡ p + n = omega arith in
    let moved : drop p (drop n m.0) ≡ drop n ys = drop-drop p n m.0 ∙ ap (λ k. drop k m.0) order ∙ sym (drop-drop n p m.0) ∙ ap (drop n) m.2 in
    ap (λ o. left_of o later false (drop n s) p) lost ∙ left_more (drop n m.0) ys s later false p n refl h k.1 moved)

-- they wait to be consumed
pub take_waits : (r : Option (List ℕ)) (limit : Option ℕ) (fresh : Bool) (s : List ℕ) (p n : ℕ) → fresh ≡ false → n ≤ length s → Drops (left_of r limit fresh s p) (left_of r limit fresh (drop n s) (p + n)) n
take_waits r limit fresh s p n stale h = Drops-from _ _ n (λ ys e.
    let w = left_is r limit fresh s p ys e in
    let k = known_is (option_map (drop p) r) s ys w.1 in
    let m = mapped p r ys k.0 in
    let moved : drop (p + n) m.0 ≡ drop n ys = sym (drop-drop n p m.0) ∙ ap (drop n) m.2 in
    ap (λ o. left_of o limit fresh (drop n s) (p + n)) m.1 ∙ left_more m.0 ys s limit fresh (p + n) n stale h k.1 moved)
