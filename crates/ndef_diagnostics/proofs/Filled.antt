-- What was read of digits is what they spell.
use Rattle.std.proofs.Common.{◌≡◌, ◌∙◌, ◌+◌, ◌-◌, ◌*◌, ◌/◌, ◌%◌, ◌<◌, ◌≤◌, inl, inr, ℕ, zero, suc, Bool, true, false, List, [], ◌∷◌, ◌++◌, Option, Some, None, Ok, Err, length, take, drop, refl, sym, ap, arith, cond, subst, length-append}
use Rattle.std.specs.Prelude.{◌==◌, min, nat_lt, set}
use Rattle.std.specs.List.{fold}
use Rattle.std.proofs.lemmas.Bool.{cases_order, le-ltb, lt-ltb, ltb-false}
use Rattle.std.proofs.lemmas.List.{take-append-drop}
use Rattle.std.proofs.lemmas.Grind.{common_steps, fold-append}
use Rattle.std.proofs.Math.Nat.{lt-div-mul-add, suc-mul}
use Rattle.ndef_diagnostics.specs.Dumps.{counted, digit_count, digits_after, first_bad, gap_between, gap_of, gap_of_places, is_digit, is_star, line_digits, next_line, octets_of, place_in, sound_octets, source_by, source_digits, source_of, spelled_by, times, value_of, written}
use Rattle.ndef_diagnostics.specs.declared.dump_form.DumpForm.{DumpForm}
use Rattle.ndef_diagnostics.specs.declared.dump_form.DumpForm.TheVariants as forms
use Rattle.ndef_diagnostics.specs.Filled.{bad_or, count_by, nothing, octet_count, out_after, put, read_more, sound_count}
use Rattle.ndef_diagnostics.specs.declared.dump.DumpFault.TheVariants as faults
use Rattle.ndef_diagnostics.specs.declared.dump_digits.Spelled.{Spelled}

-- ---- the number of digits

-- one digit more, where there is space for it
put_more : (f : Spelled × List ℕ) (d : ℕ) → f.0.count ≤ 33554432 → put f d ≡ (read_more f.0 d, out_after f.0 f.1 d)
put_more f d small = ap (λ b. cond b f (read_more f.0 d, out_after f.0 f.1 d)) (le-ltb 33554432 f.0.count small)

put_full : (f : Spelled × List ℕ) (d : ℕ) → 33554432 < f.0.count → put f d ≡ f
put_full f d large = ap (λ b. cond b f (read_more f.0 d, out_after f.0 f.1 d)) (lt-ltb 33554432 f.0.count large)

one_count : (f : Spelled × List ℕ) (d : ℕ) → f.0.count ≤ 33554433 → (put f d).0.count ≡ min (f.0.count + 1) 33554433
one_count f d within = elim (cases_order f.0.count 33554433) [
  | inl same ↦ ap (λ g. g.0.count) (put_full f d (omega (arith, same))) ∙ omega (arith, same)
  | inr (inl less) ↦ ap (λ g. g.0.count) (put_more f d (omega (arith, less))) ∙ omega (arith, less)
  | inr (inr more) ↦ absurd (omega (arith, more, within))
]

pub count_is : (f : Spelled × List ℕ) (digits : List ℕ) → f.0.count ≤ 33554433
    → (fold put f digits).0.count ≡ min (f.0.count + length digits) 33554433
count_is f [] within = omega (arith, within)
count_is f (d ∷ ds) within =
    let one = one_count f d within in
    let rest = count_is (put f d) ds (omega (arith, one)) in
    omega (arith, one, rest)

-- ---- the first that is no digit

abbrev bad_from : Option ℕ → (count : ℕ) → List ℕ → Option ℕ
bad_from (Some place) count digits = Some place
bad_from None count digits = first_bad count digits

bad_test : (b : Bool) (count : ℕ) (ds : List ℕ)
    → bad_from (cond b None (Some count)) (count + 1) ds ≡ cond b (first_bad (count + 1) ds) (Some count)
bad_test true count ds = refl
bad_test false count ds = refl

bad_more : (bad : Option ℕ) (count d : ℕ) (ds : List ℕ)
    → bad_from (bad_or bad count d) (count + 1) ds ≡ bad_from bad count (d ∷ ds)
bad_more (Some place) count d ds = refl
bad_more None count d ds = bad_test (is_digit d) count ds

bad_none : (bad : Option ℕ) (count : ℕ) → bad ≡ bad_from bad count []
bad_none (Some place) count = refl
bad_none None count = refl

bad_is : (f : Spelled × List ℕ) (digits : List ℕ) → f.0.count + length digits ≤ 33554432
    → (fold put f digits).0.bad ≡ bad_from f.0.bad f.0.count digits
bad_is f [] within = bad_none f.0.bad f.0.count
bad_is f (d ∷ ds) within =
    let p = put_more f d (omega (arith, within)) in
    ap (λ g. (fold put g ds).0.bad) p
    ∙ bad_is (read_more f.0 d, out_after f.0 f.1 d) ds (omega (arith, within)) ∙ bad_more f.0.bad f.0.count d ds

pub bad_of : (out digits : List ℕ) → length digits ≤ 33554432
    → (fold put (nothing, out) digits).0.bad ≡ first_bad 0 digits
bad_of out digits within = bad_is (nothing, out) digits (omega (arith, within))

-- ---- the octets that were written

small_value : (d : ℕ) → value_of d < 16
small_value d = grind (arith, common_steps)

same_value : (d : ℕ) → value_of d % 16 ≡ value_of d
same_value d = let l = small_value d in omega (arith, l)

none_written : (octets : List ℕ) → written octets [] ≡ []
none_written [] = refl
none_written (octet ∷ octets) = refl

-- an octet at the place after others
next_written : (v : ℕ) (octets : List ℕ) (k : ℕ) (out : List ℕ)
    → take (suc k) (set out k v) ++ written octets (drop (suc k) (set out k v)) ≡ take k out ++ written (v ∷ octets) (drop k out)
next_written v octets zero [] = none_written octets
next_written v octets (suc k) [] = none_written octets
next_written v octets zero (x ∷ out) = refl
next_written v octets (suc k) (x ∷ out) = ap (λ t. x ∷ t) (next_written v octets k out)

-- an even number of digits before one leaves it for the next
out_even : (s : Spelled) (o : List ℕ) (d : ℕ) → s.count % 2 ≡ 0 → out_after s o d ≡ o
out_even s o d even = ap (λ n. cond (n == 1) (set o (s.count / 2) (16 * (s.high % 16) + value_of d)) o) even

out_odd : (s : Spelled) (o : List ℕ) (d k : ℕ) → s.count % 2 ≡ 1 → s.count / 2 ≡ k
    → out_after s o d ≡ set o k (16 * (s.high % 16) + value_of d)
out_odd s o d k odd half = ap (λ n. cond (n == 1) (set o (s.count / 2) (16 * (s.high % 16) + value_of d)) o) odd
    ∙ ap (λ n. set o n (16 * (s.high % 16) + value_of d)) half

octets_are : (k : ℕ) (s : Spelled) (o digits : List ℕ) → s.count ≡ 2 * k → s.count + length digits ≤ 33554432
    → (fold put (s, o) digits).1 ≡ take k o ++ written (octets_of digits) (drop k o)
octets_are k s o [] even within = sym (take-append-drop k o)
octets_are k s o (h ∷ []) even within =
    ap (λ g. g.1) (put_more (s, o) h (omega (arith, within))) ∙ out_even s o h (omega (arith, even)) ∙ sym (take-append-drop k o)
octets_are k s o (h ∷ l ∷ ds) even within =
    let one : Spelled = read_more s h in
    let v : ℕ = 16 * (value_of h % 16) + value_of l in
    let first : put (s, o) h ≡ (one, o) =
    put_more (s, o) h (omega (arith, within)) ∙ ap (λ t. (one, t)) (out_even s o h (omega (arith, even))) in
    let second : put (one, o) l ≡ (read_more one l, set o k v) =
    put_more (one, o) l (omega (arith, within))
    ∙ ap (λ t. (read_more one l, t)) (out_odd one o l k (omega (arith, even)) (omega (arith, even))) in
    let next : suc k ≡ k + 1 = omega arith in
    ap (λ g. (fold put g ds).1) (ap (λ g. put g l) first ∙ second)
    ∙ octets_are (suc k) (read_more one l) (set o k v) ds (omega (arith, even)) (omega (arith, within))
    ∙ next_written v (octets_of ds) k o
    ∙ ap (λ w. take k o ++ written ((16 * w + value_of l) ∷ octets_of ds) (drop k o)) (same_value h)

pub octets_of_all : (out digits : List ℕ) → length digits ≤ 33554432
    → (fold put (nothing, out) digits).1 ≡ written (octets_of digits) out
octets_of_all out digits within = octets_are 0 nothing out digits (omega arith) (omega (arith, within))

-- ---- the number of octets

pub octets_count : (digits : List ℕ) → length (octets_of digits) ≡ length digits / 2
octets_count [] = omega arith
octets_count (h ∷ []) = omega arith
octets_count (h ∷ l ∷ ds) = omega (arith, octets_count ds)

-- ---- what is read of the digits of a text

by_tests : (large odd : Bool) (bad : Option ℕ) (digits : List ℕ)
    → cond large (Err faults.TooLong) (cond odd (Err faults.Odd) (sound_count bad (length digits)))
    ≡ counted (cond large (Err faults.TooLong) (cond odd (Err faults.Odd) (sound_octets bad digits)))
by_tests true odd bad digits = refl
by_tests false true bad digits = refl
by_tests false false (Some place) digits = refl
by_tests false false None digits = ap Ok (sym (octets_count digits))

small_spelled : (digits out : List ℕ) → length digits ≤ 33554432
    → octet_count (fold put (nothing, out) digits).0 ≡ counted (spelled_by digits)
small_spelled digits out small =
    let count : (fold put (nothing, out) digits).0.count ≡ length digits =
    let m = count_is (nothing, out) digits (omega arith) in omega (arith, m, small) in
    ap (λ n. count_by (fold put (nothing, out) digits).0.bad n) count
    ∙ ap (λ bad. count_by bad (length digits)) (bad_of out digits small)
    ∙ by_tests (nat_lt 33554432 (length digits)) (length digits % 2 == 1) (first_bad 0 digits) digits

none_by : (digits : List ℕ) → 33554432 < length digits → spelled_by digits ≡ Err faults.TooLong
none_by digits large =
    ap (λ b. cond b (Err faults.TooLong) (cond (length digits % 2 == 1) (Err faults.Odd) (sound_octets (first_bad 0 digits) digits)))
    (lt-ltb 33554432 (length digits) large)

large_count : (digits out : List ℕ) → 33554432 < length digits
    → octet_count (fold put (nothing, out) digits).0 ≡ Err faults.TooLong
large_count digits out large =
    let s = (fold put (nothing, out) digits).0 in
    let m : s.count ≡ min (0 + length digits) 33554433 = count_is (nothing, out) digits (omega arith) in
    ap (λ b. cond b (Err faults.TooLong) (cond (s.count % 2 == 1) (Err faults.Odd) (sound_count s.bad s.count)))
    (lt-ltb 33554432 s.count (omega (arith, m, large)))

spelled_all : (digits out : List ℕ) → octet_count (fold put (nothing, out) digits).0 ≡ counted (spelled_by digits)
spelled_all digits out = elim (cases_order (length digits) 33554433) [
  | inl same ↦ large_count digits out (omega (arith, same)) ∙ sym (ap counted (none_by digits (omega (arith, same))))
  | inr (inl less) ↦ small_spelled digits out (omega (arith, less))
  | inr (inr more) ↦ large_count digits out (omega (arith, more)) ∙ sym (ap counted (none_by digits (omega (arith, more))))
]

pub count_spelled : (digits out new : List ℕ) (spelled : Spelled) → (spelled, new) ≡ fold put (nothing, out) digits
    → octet_count spelled ≡ counted (spelled_by digits)
count_spelled digits out new spelled e = ap (λ f. octet_count f.0) e ∙ spelled_all digits out

pub count_large : (digits : List ℕ) → 33554432 < length digits → Err faults.TooLong ≡ counted (spelled_by digits)
count_large digits large = sym (ap counted (none_by digits large))

-- ---- what is written

ok_octets : (large odd : Bool) (bad : Option ℕ) (digits octets : List ℕ)
    → cond large (Err faults.TooLong) (cond odd (Err faults.Odd) (sound_octets bad digits)) ≡ Ok octets
    → (large ≡ false) × (octets_of digits ≡ octets)
ok_octets true odd bad digits octets e = absurd (cc)
ok_octets false true bad digits octets e = absurd (cc)
ok_octets false false (Some place) digits octets e = absurd (cc)
ok_octets false false None digits octets e = (refl, cc)

pub octets_spelled : (digits out new octets : List ℕ) (spelled : Spelled) → (spelled, new) ≡ fold put (nothing, out) digits
    → spelled_by digits ≡ Ok octets → new ≡ written octets out
octets_spelled digits out new octets spelled e ok =
    let o = ok_octets (nat_lt 33554432 (length digits)) (length digits % 2 == 1) (first_bad 0 digits) digits octets ok in
    ap (λ f. f.1) e ∙ octets_of_all out digits (ltb-false 33554432 (length digits) o.0) ∙ ap (λ w. written w out) o.1

pub none_large : (digits octets new out : List ℕ) → 33554432 < length digits → spelled_by digits ≡ Ok octets
    → new ≡ written octets out
none_large digits octets new out large ok =
    let e = none_by digits large in absurd (cc)

-- ---- the lines of a text

pub digits_counted : (digits out new : List ℕ) (spelled : Spelled) → (spelled, new) ≡ fold put (nothing, out) digits
    → spelled.count ≡ min (length digits) 33554433
digits_counted digits out new spelled e =
    let m = count_is (nothing, out) digits (omega arith) in ap (λ f. f.0.count) e ∙ omega (arith, m)

-- one line more
pub more_same : (form : DumpForm) (before line : List ℕ) (rest : List (List ℕ)) (f g : Spelled × List ℕ) (count : ℕ) (source : List ℕ)
    → (count, source) ≡ source_of form before line (next_line rest) → g ≡ fold put f (times count (line_digits form source))
    → fold put g (digits_after form line rest) ≡ fold put f (digits_after form before (line ∷ rest))
more_same form before line rest f g count source from put_all =
    let here = source_digits form (source_of form before line (next_line rest)) in
    ap (λ x. fold put x (digits_after form line rest)) (put_all ∙ ap (λ s. fold put f (source_digits form s)) from)
    ∙ sym (fold-append put f here (digits_after form line rest))

pub more_counted : (form : DumpForm) (before line : List ℕ) (rest : List (List ℕ)) (f g : Spelled × List ℕ) (count : ℕ) (source : List ℕ)
    → (count, source) ≡ source_of form before line (next_line rest) → g ≡ fold put f (times count (line_digits form source))
    → f.0.count ≤ 33554433
    → (g.0.count ≤ 33554433)
    × (g.0.count + length (digits_after form line rest) ≤ f.0.count + length (digits_after form before (line ∷ rest)))
more_counted form before line rest f g count source from put_all within =
    let here = source_digits form (source_of form before line (next_line rest)) in
    let same : g ≡ fold put f here = put_all ∙ ap (λ s. fold put f (source_digits form s)) from in
    let counted : g.0.count ≡ min (f.0.count + length here) 33554433 = ap (λ x. x.0.count) same ∙ count_is f here within in
    let both = length-append here (digits_after form line rest) in (omega (arith, counted), omega (arith, counted, both))

-- ---- lines that are repeated too often

between_some : (digits characters span gap : ℕ) → gap_between digits characters span ≡ Some gap → 2 ≤ digits
between_some digits characters span gap some = grind (arith, common_steps)

places_some : (digits characters : ℕ) (place next : Option ℕ) (gap : ℕ) → gap_of_places digits characters place next ≡ Some gap
    → 2 ≤ digits
places_some digits characters (Some place) (Some next) gap some = between_some digits characters (next - place) gap some
places_some digits characters (Some place) None gap some = absurd (cc)
places_some digits characters None (Some next) gap some = absurd (cc)
places_some digits characters None None gap some = absurd (cc)

gap_some : (form : DumpForm) (before after : List ℕ) (gap : ℕ) → gap_of form before after ≡ Some gap → 2 ≤ digit_count form before
gap_some forms.Digits before after gap some = absurd (cc)
gap_some forms.Decimals before after gap some = absurd (cc)
gap_some forms.Words before after gap some = absurd (cc)
gap_some forms.Flipper before after gap some = absurd (cc)
gap_some forms.Xxd before after gap some = places_some _ _ (place_in 16 before) (place_in 16 after) gap some
gap_some forms.Hexdump before after gap some = places_some _ _ (place_in 16 before) (place_in 16 after) gap some
gap_some (forms.Od base) before after gap some = places_some _ _ (place_in base before) (place_in base after) gap some

times_least : (count : ℕ) (digits : List ℕ) (half : ℕ) → half + half ≤ length digits → 2 * (count * half) ≤ length (times count digits)
times_least zero digits half least = omega arith
times_least (suc count) digits half least =
    omega (arith, least, suc-mul count half, times_least count digits half least, length-append digits (times count digits))

bounds : (all gap half len : ℕ) → gap < all + half → half ≤ 16777216 → 2 * all ≤ len → 33554432 < gap → 33554432 < len
bounds all gap half len a b c d = omega (arith, a, b, c, d)

pub too_often : (form : DumpForm) (before line after : List ℕ) (gap : ℕ) → is_star line ≡ true → gap_of form before after ≡ Some gap
    → 33554432 < gap → 33554432 < length (source_digits form (source_of form before line after))
too_often form before line after gap star some large =
    let digits = line_digits form before in
    let half : ℕ = digit_count form before / 2 in
    let two : 2 ≤ digit_count form before = gap_some form before after gap some in
    let is : source_of form before line after ≡ (gap / half, before) =
    ap (λ b. source_by (cond b (gap_of form before after) None) form before line) star ∙ ap (λ g. source_by g form before line) some in
    let least : half + half ≤ length digits = omega arith in
    let near : gap < gap / half * half + half = lt-div-mul-add (omega (arith, two)) in
    let long : 33554432 < length (times (gap / half) digits) =
    bounds (gap / half * half) gap half _ near (omega arith) (times_least (gap / half) digits half least) large in
    subst (λ s. 33554432 < length (source_digits form s)) (sym is) long
