-- The order of references, and the one list of them that is in it.
use Rattle.std.proofs.Common.{◌≡◌, ℕ, suc, ◌+◌, ◌<◌, ◌≤◌, true, false, cond, List, [], ◌∷◌, length, map, drop, take, sum_by, get_or, refl, sym, ◌∙◌, ap, subst, arith, true≢false, inl, inr, Ordering, Less, Equal, Greater, is_lt, IsPermutation, ◌⊎◌}
use Rattle.std.specs.Prelude.{⊤}
use Rattle.std.specs.Cmp.{IsTotalOrder, IsStrictWeakOrder}
use Rattle.std.specs.Cmp.Lexicographic.{slice_cmp}
use Rattle.std.specs.List.{All, AllByRecursion}
use Rattle.std.specs.List.Sorted.{IsSortedBy}
use Rattle.std.specs.Ordering.{MatchOrdering, nat_cmp, ordering_index, ordering_reverse, ordering_then, is_eq}
use Rattle.std.proofs.Math.Seq.{drop-nil, take-nil}
use Rattle.std.proofs.lemmas.Cmp.{nat_cmp_total, nat_list_cmp_total, on_total, then_total, tied_itself, ranked}
use Rattle.std.proofs.lemmas.List.{get_or-map, length-map}
use Rattle.std.proofs.lemmas.List.Elements.{All-from_recursion, recursion_from_All}
use Rattle.std.proofs.lemmas.List.Sorted.{All-permutation, IsPermutation-map, IsPermutation-trans, ranks_by, sorted_far, sum_by-IsPermutation}
use Rattle.std.proofs.lemmas.List.Sums.{sum_by-cons}
use Rattle.std.proofs.lemmas.Map.Text.{is_eq-slice_cmp}
use Rattle.std.proofs.lemmas.Slice.Eq.{bytes_eq-Decides}
use Rattle.ndef_value.specs.ListLaws.{all_more}
use Rattle.ndef_c.specs.HandoverItems.{HasNoRecord, name_in, without_record}
use Rattle.ndef_c.specs.ReferenceOrder.{ArePlaced, comes_first, has_smaller_name, order}
use Rattle.ndef_c.specs.declared.reference_items.NdefReferenceItem.{NdefReferenceItem}

-- ---- the order

pub order_total : (payload : List ℕ) → IsTotalOrder (order payload)
order_total payload = then_total (then_total (on_total (name_in payload) nat_list_cmp_total) (on_total (λ r. r.carrier) nat_cmp_total)) (on_total (λ r. r.number) nat_cmp_total)

pub order_ranks : (payload : List ℕ) → IsStrictWeakOrder (comes_first payload)
order_ranks payload = ranks_by (order_total payload) (λ r. r)

not_less : (a b : Ordering) → is_lt (ordering_then a b) ≡ false → is_lt a ≡ false
not_less Less b e = e
not_less Equal b e = refl
not_less Greater b e = refl

-- what is sorted so is sorted by what it is
pub sorted_names : (payload : List ℕ) (items : List NdefReferenceItem) → IsSortedBy (comes_first payload) items → IsSortedBy (has_smaller_name payload) items
sorted_names payload items h = λ k d l m. not_less _ _ (not_less _ _ (h k d l m))

-- ---- lists that are the same but for the records

pub map_count : (xs ys : List NdefReferenceItem) → map without_record xs ≡ map without_record ys → length xs ≡ length ys
map_count [] [] e = refl
map_count [] (y ∷ ys) e = absurd (cc)
map_count (x ∷ xs) [] e = absurd (cc)
map_count (x ∷ xs) (y ∷ ys) e = ap suc (map_count xs ys (ap (drop 1) e))

pub same_at : (xs ys : List NdefReferenceItem) → map without_record xs ≡ map without_record ys → (k : ℕ) (d : NdefReferenceItem) → k < length xs → without_record (get_or xs k d) ≡ without_record (get_or ys k d)
same_at xs ys e k d l =
    let n = map_count xs ys e in
    sym (get_or-map without_record xs k d d l) ∙ ap (λ zs. get_or zs k d) e ∙ get_or-map without_record ys k d d (omega (arith, n, l))

pub same_name : (payload : List ℕ) (xs ys : List NdefReferenceItem) → map without_record xs ≡ map without_record ys → (k : ℕ) (d : NdefReferenceItem) → k < length xs → name_in payload (get_or xs k d) ≡ name_in payload (get_or ys k d)
same_name payload xs ys e k d l = ap (name_in payload) (same_at xs ys e k d l)

-- they are sorted alike
pub sorted_alike : (payload : List ℕ) (xs ys : List NdefReferenceItem) → map without_record xs ≡ map without_record ys → IsSortedBy (has_smaller_name payload) xs → IsSortedBy (has_smaller_name payload) ys
sorted_alike payload xs ys e h = λ k d l m.
    let n = map_count xs ys e in
    subst (λ a. is_lt (slice_cmp nat_cmp a (name_in payload (get_or ys k d))) ≡ false) (same_name payload xs ys e (k + 1) d (omega (arith, n, m)))
    (subst (λ b. is_lt (slice_cmp nat_cmp (name_in payload (get_or xs (k + 1) d)) b) ≡ false) (same_name payload xs ys e k d (omega (arith, n, m))) (h k d l (omega (arith, n, m))))

-- ---- equal names

-- names of which neither is less are the same
pub same_from_neither : (xs ys : List ℕ) → is_lt (slice_cmp nat_cmp xs ys) ≡ false → is_lt (slice_cmp nat_cmp ys xs) ≡ false → xs ≡ ys
same_from_neither xs ys a b = by_cases (slice_cmp nat_cmp xs ys) (slice_cmp nat_cmp ys xs) refl refl a b
  where
    by_cases : (o p : Ordering) → slice_cmp nat_cmp xs ys ≡ o → slice_cmp nat_cmp ys xs ≡ p → is_lt o ≡ false → is_lt p ≡ false → xs ≡ ys
    by_cases Less p e f a b = absurd (true≢false a)
    by_cases Equal p e f a b = (bytes_eq-Decides xs ys).0 (sym (is_eq-slice_cmp xs ys) ∙ ap is_eq e)
    by_cases Greater p e f a b = absurd (true≢false (sym (ap is_lt (sym f ∙ nat_list_cmp_total.antisymm ys xs ∙ ap ordering_reverse e)) ∙ b))

pub not_below_itself : (xs : List ℕ) → is_lt (slice_cmp nat_cmp xs xs) ≡ false
not_below_itself xs = ap is_lt (tied_itself nat_list_cmp_total xs)

-- what is before one that is less is less too
pub less_first : (a b : Ordering) → ordering_index a ≤ ordering_index b → is_lt b ≡ true → is_lt a ≡ true
less_first Less b l e = refl
less_first Equal Less l e = absurd (omega (arith, l))
less_first Greater Less l e = absurd (omega (arith, l))
less_first a Equal l e = absurd (true≢false (sym e))
less_first a Greater l e = absurd (true≢false (sym e))

-- ---- one list is sorted

pub sum_none : {X : Type 0} (f : X → ℕ) (xs : List X) → AllByRecursion (λ x. f x ≡ 0) xs → sum_by f xs ≡ 0
sum_none f [] h = refl
sum_none f (x ∷ xs) h =
    let one = sum_by-cons f x xs in
    let none = h.0 in
    let more = sum_none f xs h.1 in
    omega (arith, one, none, more)

abbrev Member : {X : Type 0} → X → List X → Type 0
Member z [] = ⊥
Member z (x ∷ xs) = (z ≡ x) ⊎ Member z xs

-- each element of a list is one of it
own_members : {X : Type 0} (xs : List X) → AllByRecursion (λ z. Member z xs) xs
own_members [] = tt
own_members (x ∷ xs) = (inl refl, all_more (λ z. Member z xs) (λ z. Member z (x ∷ xs)) xs (λ z m. inr m) (own_members xs))

of_member : {X : Type 0} (P : X → Type 0) (z : X) (xs : List X) → AllByRecursion P xs → Member z xs → P z
of_member P z [] h m = absurd m
of_member P z (x ∷ xs) h (inl e) = subst P (sym e) h.0
of_member P z (x ∷ xs) h (inr m) = of_member P z xs h.1 m

module _ {X : Type 0} (cmp : X → X → Ordering) (total : IsTotalOrder cmp) where
  abbrev pub IsRising : List X → Type 0
  IsRising [] = ⊤
  IsRising (x ∷ xs) = AllByRecursion (λ z. cmp x z ≡ Less) xs × IsRising xs

  -- none is less than one before it
  abbrev NoneFalls : List X → Type 0
  NoneFalls [] = ⊤
  NoneFalls (x ∷ xs) = AllByRecursion (λ z. is_lt (cmp z x) ≡ false) xs × NoneFalls xs

  -- 1 for what is not above x
  abbrev not_above : X → X → ℕ
  not_above x z = cond (is_lt (cmp x z)) 0 1

  above : (x z : X) → cmp x z ≡ Less → not_above x z ≡ 0
  above x z e = ap (λ o. cond (is_lt o) 0 1) e

  itself : (x : X) → not_above x x ≡ 1
  itself x = ap (λ o. cond (is_lt o) 0 1) (tied_itself total x)

  -- of the elements of x ∷ xs those that are above x are in xs
  members_above : (x : X) (xs zs : List X) → sum_by (not_above x) zs ≡ 0 → AllByRecursion (λ z. Member z (x ∷ xs)) zs → AllByRecursion (λ z. Member z xs) zs
  members_above x xs [] e h = tt
  members_above x xs (z ∷ zs) e h =
      let one = sum_by-cons (not_above x) z zs in
      let here : Member z (x ∷ xs) → Member z xs = λ m. elim m [
        | inl f ↦ absurd (let k = ap (not_above x) f ∙ itself x in omega (arith, k, one, e))
        | inr n ↦ n
      ] in
      (here h.0, members_above x xs zs (omega (arith, one, e)) h.1)

  -- where y is above x, and no z is less than y, all are above x
  all_above : (x y : X) (xs zs : List X) → AllByRecursion (λ z. cmp x z ≡ Less) xs → cmp x y ≡ Less → AllByRecursion (λ z. is_lt (cmp z y) ≡ false) zs → AllByRecursion (λ z. Member z (x ∷ xs)) zs
      → AllByRecursion (λ z. not_above x z ≡ 0) zs
  all_above x y xs [] r e s m = tt
  all_above x y xs (z ∷ zs) r e s m =
      let here : Member z (x ∷ xs) → not_above x z ≡ 0 = λ k. elim k [
        | inl f ↦ absurd (true≢false (sym (ap is_lt e) ∙ subst (λ w. is_lt (cmp w y) ≡ false) f s.0))
        | inr n ↦ above x z (of_member (λ w. cmp x w ≡ Less) z xs r n)
      ] in
      (here m.0, all_above x y xs zs r e s.1 m.1)

  first_is : (x y : X) (xs ys : List X) → IsRising (x ∷ xs) → NoneFalls (y ∷ ys) → sum_by (not_above x) (y ∷ ys) ≡ sum_by (not_above x) (x ∷ xs) → AllByRecursion (λ z. Member z (x ∷ xs)) (y ∷ ys) → y ≡ x
  first_is x y xs ys r s f m = elim m.0 [
    | inl e ↦ e
    | inr n ↦ absurd (
        let e = of_member (λ w. cmp x w ≡ Less) y xs r.0 n in
        let none = sum_none (not_above x) (y ∷ ys) (above x y e, all_above x y xs ys r.0 e s.0 m.1) in
        let one = sum_by-cons (not_above x) x xs in
        let own = itself x in
        omega (arith, none, one, own, f)
        )
  ]

  one_list : (xs ys : List X) → IsRising xs → NoneFalls ys → ((f : X → ℕ) → sum_by f ys ≡ sum_by f xs) → AllByRecursion (λ z. Member z xs) ys → ys ≡ xs
  one_list [] [] r s f m = refl
  one_list [] (y ∷ ys) r s f m = absurd m.0
  one_list (x ∷ xs) [] r s f m =
      let e = f (λ z. 1) in
      let one = sum_by-cons (λ (z : X). 1) x xs in
      absurd (omega (arith, e, one))
  one_list (x ∷ xs) (y ∷ ys) r s f m =
      let e = first_is x y xs ys r s (f (not_above x)) m in
      let less : (g : X → ℕ) → sum_by g ys ≡ sum_by g xs = λ g.
      let all = f g in
      let one = sum_by-cons g x xs in
      let two = sum_by-cons g y ys in
      let same = ap g e in
      omega (arith, all, one, two, same) in
      let none = less (not_above x) ∙ sum_none (not_above x) xs (all_more (λ z. cmp x z ≡ Less) (λ z. not_above x z ≡ 0) xs (above x) r.0) in
      ap (λ z. z ∷ ys) e ∙ ap (λ zs. x ∷ zs) (one_list xs ys r.1 s.1 less (members_above x xs ys none m.1))

  none_falls : (ys : List X) → IsSortedBy (λ a b. is_lt (cmp a b)) ys → NoneFalls ys
  none_falls [] h = tt
  none_falls (y ∷ ys) h =
      let far : All (λ z. is_lt (cmp z y) ≡ false) ys = λ k d l. sorted_far (λ a b. is_lt (cmp a b)) (ranks_by total (λ a. a)) (y ∷ ys) h 0 (suc k) d (omega arith) (omega (arith, l)) in
      let tail : IsSortedBy (λ a b. is_lt (cmp a b)) ys = λ k d l n.
      let place : suc k + 1 ≡ suc (k + 1) = omega arith in
      subst (λ j. is_lt (cmp (get_or (y ∷ ys) j d) (get_or ys k d)) ≡ false) place (h (suc k) d (omega arith) (omega (arith, n))) in
      (recursion_from_All (λ z. is_lt (cmp z y) ≡ false) ys far, none_falls ys tail)

  -- a list that rises is the one of its orders that is sorted
  pub sorted_once : (xs ys : List X) → IsRising xs → IsPermutation xs ys → IsSortedBy (λ a b. is_lt (cmp a b)) ys → ys ≡ xs
  sorted_once xs ys r p h = one_list xs ys r (none_falls ys h) (λ f. sum_by-IsPermutation f xs ys p)
      (recursion_from_All (λ z. Member z xs) ys (All-permutation (λ z. Member z xs) xs ys p (All-from_recursion (λ z. Member z xs) xs (own_members xs))))

-- ---- the order of a handover

no_name : (r : NdefReferenceItem) → name_in [] r ≡ []
no_name r = ap (take r.length) (drop-nil r.at) ∙ take-nil r.length

nat_less : (x y : ℕ) → x < y → nat_cmp x y ≡ Less
nat_less x y l = by_rank (nat_cmp x y) (ranked x y (nat_cmp x y) refl)
  where
    by_rank : (o : Ordering) → MatchOrdering o (x < y) (x ≡ y) (y < x) → o ≡ Less
    by_rank Less h = refl
    by_rank Equal h = absurd (omega (arith, l, h))
    by_rank Greater h = absurd (omega (arith, l, h))

nat_tied : (x y : ℕ) → x ≡ y → nat_cmp x y ≡ Equal
nat_tied x y e = ap (nat_cmp x) (sym e) ∙ tied_itself nat_cmp_total x

placed : (a b : NdefReferenceItem) → (a.carrier < b.carrier) ⊎ ((a.carrier ≡ b.carrier) × (a.number < b.number)) → order [] a b ≡ Less
placed a b h = ap (λ n. ordering_then (ordering_then (slice_cmp nat_cmp n (name_in [] b)) (nat_cmp a.carrier b.carrier)) (nat_cmp a.number b.number)) (no_name a)
    ∙ ap (λ n. ordering_then (ordering_then (slice_cmp nat_cmp [] n) (nat_cmp a.carrier b.carrier)) (nat_cmp a.number b.number)) (no_name b)
    ∙ by_place h
  where
    by_place : (a.carrier < b.carrier) ⊎ ((a.carrier ≡ b.carrier) × (a.number < b.number)) → ordering_then (nat_cmp a.carrier b.carrier) (nat_cmp a.number b.number) ≡ Less
    by_place (inl l) = ap (λ o. ordering_then o (nat_cmp a.number b.number)) (nat_less a.carrier b.carrier l)
    by_place (inr h) = ap (λ o. ordering_then o (nat_cmp a.number b.number)) (nat_tied a.carrier b.carrier h.0) ∙ nat_less a.number b.number h.1

rising : (items : List NdefReferenceItem) → ArePlaced items → IsRising (order []) (order_total []) items
rising [] h = tt
rising (r ∷ items) h = (all_more _ (λ z. order [] r z ≡ Less) items (placed r) h.0, rising items h.1)

-- without their records they are sorted alike
sorted_bare : (payload : List ℕ) (items : List NdefReferenceItem) → IsSortedBy (comes_first payload) items → IsSortedBy (comes_first payload) (map without_record items)
sorted_bare payload items h = λ k d l m.
    let n = length-map items without_record in
    let one = get_or-map without_record items (k + 1) d d (omega (arith, n, m)) in
    let other = get_or-map without_record items k d d (omega (arith, n, m)) in
    ap (λ a. comes_first payload a (get_or (map without_record items) k d)) one ∙ ap (comes_first payload (without_record (get_or items (k + 1) d))) other ∙ h k d l (omega (arith, n, m))

same_bare : (r : NdefReferenceItem) → HasNoRecord r → without_record r ≡ r
same_bare r h =
    let with : ℕ → ℕ → ℕ → NdefReferenceItem = λ index at has. record {
      carrier = r.carrier;
      number = r.number;
      carrier_at = r.carrier_at;
      carrier_length = r.carrier_length;
      at = r.at;
      length = r.length;
      record_index = index;
      record_at = at;
      power = r.power;
      has_record = has;
    } in
    ap (λ k. with k 0 0) (sym h.index) ∙ ap (λ k. with r.record_index k 0) (sym h.at) ∙ ap (λ k. with r.record_index r.record_at k) (sym h.has)

pub all_bare : (items : List NdefReferenceItem) → AllByRecursion HasNoRecord items → map without_record items ≡ items
all_bare [] h = refl
all_bare (r ∷ items) h = ap (λ x. x ∷ map without_record items) (same_bare r h.0) ∙ ap (λ xs. r ∷ xs) (all_bare items h.1)

pub none_sorted : (items sorted : List NdefReferenceItem) → IsPermutation items sorted → AllByRecursion HasNoRecord items → AllByRecursion HasNoRecord sorted
none_sorted items sorted p h = recursion_from_All HasNoRecord sorted (All-permutation HasNoRecord items sorted p (All-from_recursion HasNoRecord items h))

-- sorted by what they are, given records, and sorted back they are the same but for the records
pub sorted_back : (items sorted linked back : List NdefReferenceItem) → AllByRecursion HasNoRecord items → ArePlaced items → IsPermutation items sorted → map without_record linked ≡ map without_record sorted → IsPermutation linked back
    → IsSortedBy (comes_first []) back → map without_record back ≡ items
sorted_back items sorted linked back none place there same again up =
    let bare = same ∙ all_bare sorted (none_sorted items sorted there none) in
    let moved = subst (λ xs. IsPermutation xs (map without_record back)) bare (IsPermutation-map without_record linked back again) in
    sorted_once (order []) (order_total []) items (map without_record back) (rising items place) (IsPermutation-trans items sorted (map without_record back) there moved) (sorted_bare [] back up)
