-- Edits, one after another.
use Rattle.std.proofs.Common.{◌≡◌, ◌∙◌, ◌<◌, ◌≤◌, ◌+◌, ℕ, zero, suc, Bool, true, false, List, [], ◌∷◌, ◌++◌, append-nil, append_assoc, length, take, get_or, map, Option, None, Some, refl, sym, ap, ap₂, arith, cond, rules, subst}
use Rattle.std.specs.Prelude.{◌==◌, count_by, drop, nat_lt, option_and_then, option_map}
use Rattle.std.proofs.Math.ListN.{set}
use Rattle.std.specs.List.{find, flat_map, remove, slice_get}
use Rattle.std.proofs.lemmas.Bool.{eqb-true, false_from_ne_true, lt-ltb, ltb-true}
use Rattle.std.proofs.Math.Seq.{drop-append-add, drop-cons, drop-append_seam, get_or-append_seam, take-append-add, take-append_seam}
use Rattle.std.proofs.lemmas.List.{drop-set, flat_map_more, length-append, take-append-drop, take-set, take_more}
use Rattle.std.proofs.lemmas.List.Concat.{flat_map-append}
use Rattle.std.proofs.lemmas.List.Folds.{find-append}
use Rattle.std.proofs.lemmas.List.Sums.{sum_by-cons}
use Rattle.std.proofs.lemmas.Option.{get_or_from_slice_get, slice_get-get_or, slice_get_within, slice_get-map, slice_get_past, slice_get_read}
use Rattle.std.specs.Option.{option_map_or, option_or}
use Rattle.ndef_format.specs.Messages.{Item}
use Rattle.ndef_cli_make.specs.Asked.{AskedPart}
use Rattle.ndef_cli_make.specs.Edited.{IsPlaced}
use Rattle.ndef_cli_make.specs.Editing.{altered_by, edit_map, edit_references, in_place, kept_from, usage_error_after, usage_error_at, names, number_of, one_or_none, passes, record_of, records_in}
use Rattle.ndef_cli_make.specs.References.{references_of}
use Rattle.ndef_cli_make.specs.declared.editing.Edit.{Edit}
use Rattle.ndef_cli_make.specs.declared.editing.Edit.TheVariants.{Keeps, Drops, Replaces, Adds}
use Rattle.ndef_cli_make.specs.declared.usage_error.UsageError.{UsageError}

-- ---- one edit

number_same : {X Y : Type 0} (f : X → Y) (e : Edit X) → number_of (edit_map f e) ≡ number_of e
number_same f (Keeps flags) = refl
number_same f (Drops n flags) = refl
number_same f (Replaces n x) = refl
number_same f (Adds x) = refl

-- the numbers of edits are those of what they stand for
pub numbers_same : {X Y : Type 0} (f : X → Y) (es : List (Edit X)) → map number_of (map (edit_map f) es) ≡ map number_of es
numbers_same f [] = refl
numbers_same f (e ∷ es) = ap (λ n. n ∷ map number_of (map (edit_map f) es)) (number_same f e) ∙ ap (λ ns. number_of e ∷ ns) (numbers_same f es)

-- ---- the records of edits

count_one : {X : Type 0} (test : X → Bool) (o : Option X) (xs : List X) → count_by test (one_or_none o ++ xs) ≡ cond (option_map_or test o false) 1 0 + count_by test xs
count_one test None xs = omega arith
count_one test (Some x) xs = sum_by-cons (λ y. cond (test y) 1 0) x xs

pub count_in : {X Y : Type 0} (test : Y → Bool) (f : X → Edit Y) (es : List X) → count_by test (records_in (map f es)) ≡ count_by (λ e. passes test (f e)) es
count_in test f [] = refl
count_in test f (e ∷ es) =
    count_one test (record_of (f e)) (records_in (map f es)) ∙ ap (λ n. cond (passes test (f e)) 1 0 + n) (count_in test f es)
    ∙ sym (sum_by-cons (λ d. cond (passes test (f d)) 1 0) e es)

one_refers : (o : Option AskedPart) → flat_map references_of (one_or_none o) ≡ option_map_or references_of o []
one_refers None = refl
one_refers (Some part) = append-nil (references_of part)

pub references_in : (es : List (Edit AskedPart)) → flat_map references_of (records_in es) ≡ flat_map edit_references es
references_in [] = refl
references_in (e ∷ es) = flat_map-append references_of (one_or_none (record_of e)) (records_in es) ∙ ap₂ (λ a b. a ++ b) (one_refers (record_of e)) (references_in es)

-- ---- what stands in place of records

-- what stands before an element, and what after it
pub cut_there : {A : Type 0} (ps : List A) (n : ℕ) (p : A) → n < length ps → p ≡ get_or ps n p → (rest : List A) × (ps ≡ take n ps ++ p ∷ rest)
cut_there [] n p l e = absurd (omega arith)
cut_there (x ∷ ps) zero p l e = (ps, ap (λ y. y ∷ ps) (sym e))
cut_there (x ∷ ps) (suc n) p l e = let more = cut_there ps n p (omega arith) e in (more.0, ap (λ t. x ∷ t) more.1)

-- an edit that adds a record is of no record that is there
pub found_altered : {X : Type 0} (n : ℕ) (es : List (Edit X)) → find (names n) (flat_map altered_by es) ≡ find (names n) es
found_altered n [] = refl
found_altered n (Keeps flags ∷ es) = found_altered n es
found_altered {X} n (Drops m flags ∷ es) = ap (λ (o : Option (Edit X)). cond (names {X = X} n (Drops m flags)) (Some (Drops m flags)) o) (found_altered n es)
found_altered {X} n (Replaces m x ∷ es) = ap (λ (o : Option (Edit X)). cond (names {X = X} n (Replaces m x)) (Some (Replaces m x)) o) (found_altered n es)
found_altered n (Adds x ∷ es) = found_altered n es

-- so edits that add records change none
pub kept_same : {X : Type 0} (n : ℕ) (es : List (Edit X)) (xs : List X) → kept_from n (flat_map altered_by es) xs ≡ kept_from n es xs
kept_same n es [] = refl
kept_same {X} n es (x ∷ xs) = ap₂ (λ (o : Option (Edit X)) (rest : List X). in_place o x ++ rest) (found_altered n es) (kept_same (n + 1) es xs)

-- one edit more that alters or adds a record
pub one_more : {X Y : Type 0} (f : X → List Y) (xs : List X) (x : X) (before now after : List Y) → now ≡ before ++ flat_map f xs → after ≡ now ++ f x → after ≡ before ++ flat_map f (xs ++ x ∷ [])
one_more f xs x before now after is grown = grown ∙ ap (λ t. t ++ f x) is ∙ flat_map_more f before xs x

-- ---- one record after another, from the last on

-- what stands in place of the record between others
placed_between : {X : Type 0} (edits : List (Edit X)) (front rest added : List X) (x : X) (edit : Option (Edit X)) → edit ≡ find (names (length front + 1)) edits
    → take (length front) (front ++ x ∷ (kept_from (length front + 2) edits rest ++ added))
    ++ (in_place edit x ++ drop (length front + 1) (front ++ x ∷ (kept_from (length front + 2) edits rest ++ added)))
    ≡ front ++ (kept_from (length front + 1) edits (x ∷ rest) ++ added)
placed_between {X} edits front rest added x edit is =
    let kept = kept_from (length front + 2) edits rest in
    let tail = x ∷ (kept ++ added) in
    let next : (length front + 1) + 1 ≡ length front + 2 = omega arith in
    let all : kept_from (length front + 1) edits (x ∷ rest) ≡ in_place edit x ++ kept =
    ap₂ (λ (o : Option (Edit X)) (n : ℕ). in_place o x ++ kept_from n edits rest) (sym is) next in
    ap₂ (λ (a b : List X). a ++ (in_place edit x ++ b)) (take-append_seam front tail) (drop-append-add front tail 1)
    ∙ ap (λ t. front ++ t) (sym (append_assoc (in_place edit x) kept added))
    ∙ ap (λ t. front ++ (t ++ added)) (sym all)

-- no edit leaves the record as it is
pub unaltered : (xs : List Item) (at : ℕ) (item : Item) → slice_get xs at ≡ Some item → xs ≡ take at xs ++ (item ∷ drop (at + 1) xs)
unaltered xs at item is =
    let next : suc at ≡ at + 1 = omega arith in
    sym (take-append-drop at xs) ∙ ap (λ t. take at xs ++ t) (drop-cons xs at item (slice_get_within xs at item is)
    ∙ ap₂ (λ (x : Item) (k : ℕ). x ∷ drop k xs) (get_or_from_slice_get xs at item item is) next)

-- an edit with a record puts it in place
pub replaced : (edit : Option (Edit Item)) (e : Edit Item) (xs : List Item) (at : ℕ) (y item : Item) → edit ≡ Some e → record_of e ≡ Some y → at < length xs
    → set xs at y ≡ take at xs ++ (in_place edit item ++ drop (at + 1) xs)
replaced edit e xs at y item is has l =
    sym (take-append-drop at (set xs at y)) ∙ ap₂ (λ (a b : List Item). a ++ b) (take-set xs at y) (drop-set xs at y l)
    ∙ ap (λ t. take at xs ++ (t ++ drop (at + 1) xs)) (sym (ap (λ o. in_place o item) is ∙ ap one_or_none has))

split_there : {X : Type 0} (xs : List X) (k : ℕ) → k < length xs → (front : List X) × (x : X) × (rest : List X) × (xs ≡ front ++ x ∷ rest) × (k ≡ length front)
split_there [] k l = absurd (omega arith)
split_there (x ∷ xs) zero l = ([], x, xs, refl, refl)
split_there (x ∷ xs) (suc k) l =
    let more = split_there xs k (omega arith) in
    (x ∷ more.0, more.1, more.2, ap (λ t. x ∷ t) more.3, ap suc more.4)

placed_after : (edits : List (Edit Item)) (front rest added before after : List Item) (x : Item) (edit : Option (Edit Item)) → edit ≡ find (names (length front + 1)) edits
    → before ≡ take (length front + 1) (front ++ x ∷ rest) ++ (kept_from (length front + 2) edits (drop (length front + 1) (front ++ x ∷ rest)) ++ added)
    → IsPlaced (length front) edit before after → after ≡ take (length front) (front ++ x ∷ rest) ++ (kept_from (length front + 1) edits (drop (length front) (front ++ x ∷ rest)) ++ added)
placed_after edits front rest added before after x edit is was placed =
    let kept = kept_from (length front + 2) edits rest in
    let flat : before ≡ front ++ x ∷ (kept ++ added) =
    was ∙ ap₂ (λ (a b : List Item). a ++ (kept_from (length front + 2) edits b ++ added)) (take-append-add front (x ∷ rest) 1) (drop-append-add front (x ∷ rest) 1)
    ∙ append_assoc front (x ∷ []) (kept ++ added) in
    let long : length front < length (front ++ x ∷ (kept ++ added)) = omega (arith, length-append front (x ∷ (kept ++ added))) in
    let there : slice_get before (length front) ≡ Some x =
    ap (λ t. slice_get t (length front)) flat ∙ slice_get-get_or (front ++ x ∷ (kept ++ added)) (length front) x long ∙ ap (λ y. Some y) (get_or-append_seam front x (kept ++ added) x) in
    placed x there ∙ ap (λ t. take (length front) t ++ (in_place edit x ++ drop (length front + 1) t)) flat ∙ placed_between edits front rest added x edit is
    ∙ sym (ap₂ (λ (a b : List Item). a ++ (kept_from (length front + 1) edits b ++ added)) (take-append_seam front (x ∷ rest)) (drop-append_seam front (x ∷ rest)))

-- what an edit leaves in place of the record at an index goes before what was left after it
abbrev Placed : List (Edit Item) → (added before after : List Item) → Option (Edit Item) → (k : ℕ) → (old : List Item) → Type 0
Placed edits added before after edit k old = edit ≡ find (names (k + 1)) edits
    → before ≡ take (k + 1) old ++ (kept_from (k + 2) edits (drop (k + 1) old) ++ added) → IsPlaced k edit before after
    → after ≡ take k old ++ (kept_from (k + 1) edits (drop k old) ++ added)

-- what stands in place of one record more
pub placed_step : (edits : List (Edit Item)) (old added before after : List Item) (k : ℕ) (edit : Option (Edit Item)) → k < length old → edit ≡ find (names (k + 1)) edits
    → before ≡ take (k + 1) old ++ (kept_from (k + 2) edits (drop (k + 1) old) ++ added) → IsPlaced k edit before after → after ≡ take k old ++ (kept_from (k + 1) edits (drop k old) ++ added)
placed_step edits old added before after k edit l =
    let split = split_there old k l in
    let front = split.0 in
    let whole = front ++ split.1 ∷ split.2 in
    subst (Placed edits added before after edit k) (sym split.3)
    (subst (λ n. Placed edits added before after edit n whole) (sym split.4) (placed_after edits front split.2 added before after split.1 edit))

pub placed_before : (edits : List (Edit Item)) (old added before after : List Item) (k left : ℕ) (edit : Option (Edit Item)) → left ≤ length old → k + 1 ≡ left → edit ≡ find (names left) edits
    → before ≡ take left old ++ (kept_from (left + 1) edits (drop left old) ++ added) → IsPlaced k edit before after → after ≡ take k old ++ (kept_from (k + 1) edits (drop k old) ++ added)
placed_before edits old added before after k left edit l next is was placed =
    placed_step edits old added before after k edit (omega (arith, l, next)) (is ∙ ap (λ n. find (names n) edits) (sym next))
    (was ∙ ap₂ (λ n m. take n old ++ (kept_from m edits (drop n old) ++ added)) (sym next) (omega (arith, next))) placed

-- ---- an edit that is taken out

differs : (n other m : ℕ) → (m == n) ≡ true → (other ≡ n → ⊥) → (m == other) ≡ false
differs n other m is apart =
    let same = eqb-true m n is in
    false_from_ne_true (m == other) (λ e. apart (sym (eqb-true m other e) ∙ same))

skipped : {X : Type 0} (test : X → Bool) (x : X) (rest : List X) → test x ≡ false → find test (x ∷ rest) ≡ find test rest
skipped test x rest is = ap (λ b. cond b (Some x) (find test rest)) is

-- what doesn't pass is not missed
pub found_without : {X : Type 0} (test : X → Bool) (ps : List X) (n : ℕ) (p : X) → n < length ps → p ≡ get_or ps n p → test p ≡ false → find test (remove ps n) ≡ find test ps
found_without test ps n p l e is =
    let tail : drop n ps ≡ p ∷ drop (suc n) ps = drop-cons ps n p l ∙ ap (λ x. x ∷ drop (suc n) ps) (sym e) in
    find-append test (take n ps) (drop (suc n) ps) ∙ ap (λ o. option_or (find test (take n ps)) o) (sym (skipped test p (drop (suc n) ps) is) ∙ ap (find test) (sym tail))
    ∙ sym (find-append test (take n ps) (drop n ps)) ∙ ap (find test) (take-append-drop n ps)

-- an edit of one record is of no other
pub other_number : {X : Type 0} (n other : ℕ) (e : Edit X) → names n e ≡ true → (other ≡ n → ⊥) → names other e ≡ false
other_number n other (Keeps flags) is apart = refl
other_number n other (Drops m flags) is apart = differs n other m is apart
other_number n other (Replaces m x) is apart = differs n other m is apart
other_number n other (Adds x) is apart = refl

-- ---- numbers

unequal : true ≡ false → ⊥
unequal h = absurd (search rules)

-- what holds below a number and of it holds below the next one
pub below_more : (P : ℕ → Type 0) (n : ℕ) → ((k : ℕ) → k < n → P k) → P n → (k : ℕ) → k < n + 1 → P k
below_more P n before is k l = go (nat_lt k n) refl
  where
    go : (b : Bool) → nat_lt k n ≡ b → P k
    go true e = before k (ltb-true k n e)
    go false e =
        let no : k < n → ⊥ = λ m. unequal (sym (lt-ltb k n m) ∙ e) in
        let same : n ≡ k = omega (arith, l, no) in
        subst P same is

-- no number is wrong past the last
pub right_past : (count : ℕ) (numbers : List (Option ℕ)) (n : ℕ) → length numbers ≤ n → ((k : ℕ) → k < n → usage_error_at count numbers k ≡ None) → (k : ℕ) → usage_error_at count numbers k ≡ None
right_past count numbers n l before k = go (nat_lt k n) refl
  where
    go : (b : Bool) → nat_lt k n ≡ b → usage_error_at count numbers k ≡ None
    go true e = before k (ltb-true k n e)
    go false e =
        let no : k < n → ⊥ = λ m. unequal (sym (lt-ltb k n m) ∙ e) in
        ap (λ o. option_and_then (λ number. usage_error_after count (take k numbers) number) o) (slice_get_past numbers k (omega (arith, l, no)))

-- what is wrong with the number at a place
pub number_at : (count : ℕ) (numbers : List (Option ℕ)) (at : ℕ) (number : Option ℕ) (others : List (Option ℕ)) (m : Option UsageError) → slice_get numbers at ≡ Some number → others ≡ take at numbers
    → m ≡ usage_error_after count others number → usage_error_at count numbers at ≡ m
number_at count numbers at number others m there front is =
    ap (λ o. option_and_then (λ number. usage_error_after count (take at numbers) number) o) there ∙ ap (λ ns. usage_error_after count ns number) (sym front) ∙ sym is

-- the number of an edit at a place
pub number_there : {X : Type 0} (edits : List (Edit X)) (at : ℕ) (e : Edit X) → at < length edits → e ≡ get_or edits at e → slice_get (map number_of edits) at ≡ Some (number_of e)
number_there edits at e l is = slice_get-map number_of edits at ∙ ap (option_map number_of) (slice_get_read edits (length edits) at e refl l is)

-- ---- finding

-- nothing is found yet
pub found_none : {X : Type 0} (test : X → Bool) (ps : List X) (n : ℕ) (p : X) → n < length ps → p ≡ get_or ps n p → test p ≡ false → find test (take n ps) ≡ None → find test (take (n + 1) ps) ≡ None
found_none test ps n p l e is none =
    ap (find test) (take_more ps n p l) ∙ ap (λ x. find test (take n ps ++ x ∷ [])) (sym e) ∙ find-append test (take n ps) (p ∷ []) ∙ ap (λ o. option_or o (find test (p ∷ []))) none
    ∙ ap (λ b. cond b (Some p) None) is

-- this one is the first
pub found_first : {X : Type 0} (test : X → Bool) (ps : List X) (n : ℕ) (p : X) → n < length ps → p ≡ get_or ps n p → test p ≡ true → find test (take n ps) ≡ None → find test ps ≡ Some p
found_first test ps n p l e is none =
    let split = cut_there ps n p l e in
    ap (find test) split.1 ∙ find-append test (take n ps) (p ∷ split.0) ∙ ap (λ o. option_or o (find test (p ∷ split.0))) none ∙ ap (λ b. cond b (Some p) (find test split.0)) is
