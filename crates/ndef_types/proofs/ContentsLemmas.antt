-- The records of nested messages, one after another.
use Rattle.std.proofs.Common.{◌≡◌, ◌≢◌, true, false, ℕ, suc, ◌+◌, ◌<◌, ◌≤◌, ◌⊎◌, zero, get_or, Bool, List, [], ◌∷◌, ◌++◌, length, take, refl, sym, ◌∙◌, ap, subst, inl, inr, arith, Option, Some, None}
use Rattle.std.specs.Prelude.{slice_get, if◌then◌else◌, filter, option_map, IfSome}
use Rattle.std.specs.List.{AllByRecursion}
use Rattle.std.proofs.lemmas.Bool.{cases_lt}
use Rattle.std.proofs.lemmas.List.{take_more, take_all}
use Rattle.std.proofs.lemmas.List.Elements.{filter_more}
use Rattle.std.proofs.lemmas.List.Sums.{sum_by-cons}
use Rattle.std.proofs.lemmas.Option.{get_or_from_slice_get, slice_get-get_or, slice_get_read, slice_get_within}
use Rattle.ndef_format.specs.Messages.{Item}
use Rattle.ndef_format.specs.Canonical.{AreItems}
use Rattle.ndef_format.specs.declared.profile.Profile.TheVariants.{Strict}
use Rattle.ndef_format.specs.Nested.{IsPayload, HasContents, IsComplete, kind_in}
use Rattle.ndef_format.specs.declared.kind.Kind.{Kind}
use Rattle.ndef_format.specs.declared.kind.Kind.TheVariants as kinds
use Rattle.ndef_format.specs.declared.table.Table.{Table}
use Rattle.ndef_format.specs.declared.table.Table.TheVariants.{SmartPoster, Request}
use Rattle.ndef_types.specs.ContentsLaws.{has_at, no_uris, not_uri, one_if_uri, uris}
use Rattle.ndef_types.specs.Contents.{AreInOrder, IsFirstOf, IsFirstAt, IsInOrder, IsOfKind, Lack}

-- the record that a loop over them has reached
pub reached : (items : List Item) (n : ℕ) (i : Item) → n < length items → i ≡ get_or items n i → slice_get items n ≡ Some i
reached items n i l e = slice_get_read items (length items) n i refl l e

pub take_grows : (items : List Item) (n : ℕ) (i : Item) → slice_get items n ≡ Some i → take (n + 1) items ≡ take n items ++ i ∷ []
take_grows items n i e = take_more items n i (slice_get_within items n i e) ∙ ap (λ j. take n items ++ j ∷ []) (get_or_from_slice_get items n i i e)

all_more : (P : Item → Type 0) (xs : List Item) (i : Item) → AllByRecursion P xs → P i → AllByRecursion P (xs ++ i ∷ [])
all_more P [] i h k = (k, tt)
all_more P (x ∷ xs) i h k = (h.0, all_more P xs i h.1 k)

pub lack_more : (P : Item → Type 0) (items : List Item) (n : ℕ) (i : Item) → slice_get items n ≡ Some i → (P i → ⊥) → Lack P (take n items) → Lack P (take (n + 1) items)
lack_more P items n i e f h = rw (take_grows items n i e) (all_more (λ j. P j → ⊥) (take n items) i h f)

pub lack_all : (P : Item → Type 0) (items : List Item) (n : ℕ) → length items ≤ n → Lack P (take n items) → Lack P items
lack_all P items n l h = subst (Lack P) (take_all n items l) h

-- a record that is searched for is among those that are there
pub filter_some : (P : Item → Bool) (items : List Item) (n : ℕ) (i : Item) → slice_get items n ≡ Some i → P i ≡ true → filter P items ≢ []
filter_some P [] n i e h none = cc
filter_some P (j ∷ items) zero i e h none =
    let p : j ≡ i = cc in
    let one : filter P (j ∷ items) ≡ j ∷ filter P items = ap (λ b. if b then j ∷ filter P items else filter P items) (ap P p ∙ h) in
    let y : j ∷ filter P items ≡ [] = sym one ∙ none in
    cc
filter_some P (j ∷ items) (suc n) i e h none = filter_some P items n i e h (left (P j) j (filter P items) none)
  where
    left : (b : Bool) (x : Item) (xs : List Item) → (if b then x ∷ xs else xs) ≡ [] → xs ≡ []
    left true x xs e = absurd (cc)
    left false x xs e = e

pub filter_grows : (P : Item → Bool) (items : List Item) (n : ℕ) (i : Item) → slice_get items n ≡ Some i → filter P (take (n + 1) items) ≡ filter P (take n items) ++ (if P i then i ∷ [] else [])
filter_grows P items n i e =
    filter_more P items n i (slice_get_within items n i e) ∙ ap (λ j. filter P (take n items) ++ (if P j then j ∷ [] else [])) (get_or_from_slice_get items n i i e)

-- ---- records in order

same_item : (items : List Item) (n k : ℕ) (i j : Item) → k ≡ n → slice_get items n ≡ Some i → slice_get items k ≡ Some j → j ≡ i
same_item items n k i j p e f = let g : Some j ≡ Some i = sym f ∙ ap (slice_get items) p ∙ e in cc

pub order_more : (table : Table) (items : List Item) (n : ℕ) (i : Item) → slice_get items n ≡ Some i → IsInOrder table (take n items) i → AreInOrder table items n → AreInOrder table items (n + 1)
order_more table items n i e h f k l j g =
    elim (cases_lt k n) [
      | inl x ↦ f k x j g
      | inr x ↦ (let p : k ≡ n = omega arith in rw (p, same_item items n k i j p e g) h)
    ]

all_members : (P : Item → Type 0) (items : List Item) → ((k : ℕ) → k < length items → (i : Item) → slice_get items k ≡ Some i → P i) → AllByRecursion P items
all_members P [] f = tt
all_members P (i ∷ items) f = (f 0 (omega arith) i refl, all_members P items (λ k l j e. f (suc k) (omega arith) j e))

members : (table : Table) (items : List Item) → AreInOrder table items (length items) → AllByRecursion (λ i. IsPayload (kind_in table i.tnf i.kind) Strict i.payload) items
members table items h = all_members (λ i. IsPayload (kind_in table i.tnf i.kind) Strict i.payload) items (λ k l i e. (h k l i e).payload)

pub request_in_order : (items records : List Item) → records ≡ items → AreItems items → AreInOrder Request records (length records) → HasContents Request Strict items
request_in_order items records e are h =
    let f = subst (λ xs. AreInOrder Request xs (length xs)) e h in
    record { members = members Request items f; complete = complete items are.some f }
  where
    complete : (xs : List Item) → 1 ≤ length xs → AreInOrder Request xs (length xs) → IsComplete Request xs
    complete [] l f = absurd (omega arith)
    complete (i ∷ xs) l f = (f 0 (omega arith) i refl).place refl

-- ---- the first record of a kind

pub first_payload : {X : Type 0} (f : X → Item) (kind : Kind) (items : List Item) (result : Option X) → HasContents SmartPoster Strict items
    → IsFirstOf (IsOfKind SmartPoster kind) items (option_map f result) → IfSome result (λ x. IsPayload kind Strict (f x).payload)
first_payload f kind items None h r = tt
first_payload f kind items (Some x) h r =
    let m = has_at (λ i. IsPayload (kind_in SmartPoster i.tnf i.kind) Strict i.payload) items r.0 (f x) h.members r.1.at in
    subst (λ k. IsPayload k Strict (f x).payload) r.1.has m

-- ---- the one URI of a poster

uri_kind : (kind : Kind) → (kind ≡ kinds.Uri → ⊥) ⊎ (kind ≡ kinds.Uri)
uri_kind kinds.Uri = inr refl
uri_kind _ = inl (λ e. cc)

uris_more : (xs : List Item) (i : Item) → uris (xs ++ i ∷ []) ≡ uris xs + one_if_uri i
uris_more [] i = omega (arith, sum_by-cons one_if_uri i [])
uris_more (x ∷ xs) i = omega (arith, sum_by-cons one_if_uri x (xs ++ i ∷ []), sum_by-cons one_if_uri x xs, uris_more xs i)

-- at most one among records in order
few_uris : (items : List Item) (n : ℕ) → n ≤ length items → AreInOrder SmartPoster items n → uris (take n items) ≤ 1
few_uris items zero l h = omega arith
few_uris [] (suc n) l h = absurd (omega arith)
few_uris (x ∷ items) (suc n) l h =
    let i = get_or (x ∷ items) n x in
    let e : slice_get (x ∷ items) n ≡ Some i = slice_get-get_or (x ∷ items) n x (omega arith) in
    let m : uris (take (n + 1) (x ∷ items)) ≡ uris (take n (x ∷ items)) + one_if_uri i = ap uris (take_grows (x ∷ items) n i e) ∙ uris_more (take n (x ∷ items)) i in
    let f = few_uris (x ∷ items) n (omega arith) (λ k b. h k (omega arith)) in
    let o = (h n (omega arith) i e).place in
    let c : uris (take (n + 1) (x ∷ items)) ≤ 1 =
    elim (uri_kind (kind_in SmartPoster i.tnf i.kind)) [
      | inl a ↦ (let z : one_if_uri i ≡ 0 = rw (not_uri (kind_in SmartPoster i.tnf i.kind) a) refl in omega (arith, m, f, z))
      | inr a ↦ (let z : one_if_uri i ≡ 1 = rw a refl in omega (arith, m, z, no_uris (take n (x ∷ items)) (o a)))
    ] in
    let e : n + 1 ≡ suc n = omega arith in
    subst (λ k. uris (take k (x ∷ items)) ≤ 1) e c

-- some, where one is
some_uris : (items : List Item) (k : ℕ) (i : Item) → slice_get items k ≡ Some i → kind_in SmartPoster i.tnf i.kind ≡ kinds.Uri → 1 ≤ uris items
some_uris [] k i e h = absurd (cc)
some_uris (j ∷ items) zero i e h =
    let p : j ≡ i = cc in
    let q : one_if_uri j ≡ 1 = rw (p, h) refl in
    omega (arith, q, sum_by-cons one_if_uri j items)
some_uris (j ∷ items) (suc k) i e h = omega (arith, some_uris items k i e h, sum_by-cons one_if_uri j items)

pub poster_in_order : (items : List Item) (k : ℕ) (i : Item) → AreInOrder SmartPoster items (length items) → IsFirstAt (IsOfKind SmartPoster kinds.Uri) items k i → HasContents SmartPoster Strict items
poster_in_order items k i h u = record {
  members = members SmartPoster items h;
  complete =
      let a = few_uris items (length items) (omega arith) h in
      let b : uris (take (length items) items) ≡ uris items = ap uris (take_all (length items) items (omega arith)) in
      let c = some_uris items k i u.at u.has in
      omega (arith, a, b, c);
}
