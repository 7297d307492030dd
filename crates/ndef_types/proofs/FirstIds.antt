-- The records of a message, one after another, found by their ids.
use Rattle.std.proofs.Common.{◌≡◌, ◌≢◌, ℕ, ◌+◌, ◌⊎◌, Bool, true, false, Bor, List, [], refl, sym, ◌∙◌, ap, subst, inl, inr, Option, Some, None, bytes_eq}
use Rattle.std.specs.Prelude.{slice_get, is_some, length, ◌≤◌, if◌then◌else◌}
use Rattle.std.specs.BTreeMap.{BTreeMap, UpdatesBy}
use Rattle.std.specs.Cmp.Lexicographic.{slice_cmp}
use Rattle.std.specs.Ordering.{nat_cmp}
use Rattle.std.proofs.lemmas.Map.Text.{btree_map_updates_str}
use Rattle.std.proofs.lemmas.Slice.Eq.{bytes_eq-Decides}
use Rattle.ndef_format.specs.Messages.{Item}
use Rattle.ndef_types.specs.Ids.{FindsFirsts, FindsSome, IsFound, index_at}
use Rattle.ndef_types.specs.Links.{HasId, IsIndexOf}
use Rattle.ndef_types.proofs.ContentsLemmas.{lack_all, lack_more}

-- a record with another id
found_more : (items : List Item) (n : ℕ) (i : Item) (id : List ℕ) (o : Option ℕ) → slice_get items n ≡ Some i → i.id ≢ id → IsFound items n id o → IsFound items (n + 1) id o
found_more items n i id None e f (inl x) = inl x
found_more items n i id None e f (inr x) = inr (lack_more (HasId id) items n i e f x)
found_more items n i id (Some k) e f h = h

-- an id that is empty, or is there already
found_kept : (items : List Item) (n : ℕ) (id : List ℕ) (o : Option ℕ) → (id ≡ []) ⊎ (is_some o ≡ true) → IsFound items n id o → IsFound items (n + 1) id o
found_kept items n id None (inl e) h = inl e
found_kept items n id None (inr e) h = absurd (cc)
found_kept items n id (Some k) e h = h

-- the first record with its id
found_here : (items : List Item) (n : ℕ) (i : Item) (id : List ℕ) (o : Option ℕ) → slice_get items n ≡ Some i → i.id ≡ id → id ≢ [] → is_some o ≡ false → IsFound items n id o → IsFound items (n + 1) id (Some n)
found_here items n i id None e same some none (inl x) = absurd (some x)
found_here items n i id None e same some none (inr x) = (some, i, record { at = e; has = same; before = x })
found_here items n i id (Some k) e same some none h = absurd (cc)

by_id : (x id : List ℕ) (P : Type 0) → (x ≡ id → P) → (x ≢ id → P) → P
by_id x id P same other = by (bytes_eq x id) refl
  where
    by : (b : Bool) → bytes_eq x id ≡ b → P
    by true e = same ((bytes_eq-Decides x id).0 e)
    by false e = other (λ p. let t : true ≡ false = sym ((bytes_eq-Decides x id).1 p) ∙ e in absurd (cc))

pub none_added : (items : List Item) (n : ℕ) (i : Item) (x : List ℕ) (ids : BTreeMap (Bor (List ℕ)) ℕ) → slice_get items n ≡ Some i → i.id ≡ x → (x ≡ []) ⊎ (is_some (index_at ids x) ≡ true)
    → FindsSome items n ids → FindsSome items (n + 1) ids
none_added items n i x ids e same w h id =
    by_id x id (IsFound items (n + 1) id (index_at ids id))
    (λ p. found_kept items n id (index_at ids id) (subst (λ y. (y ≡ []) ⊎ (is_some (index_at ids y) ≡ true)) p w) (h id))
    (λ f. found_more items n i id (index_at ids id) e (λ p. f (sym same ∙ p)) (h id))

pub one_added : (items : List Item) (n : ℕ) (i : Item) (x : List ℕ) (ids new : BTreeMap (Bor (List ℕ)) ℕ) → slice_get items n ≡ Some i → i.id ≡ x → x ≢ [] → is_some (index_at ids x) ≡ false
    → UpdatesBy (λ a b. slice_cmp nat_cmp a.now b.now) (λ k. slice_cmp nat_cmp x k.now) ids new (Some n) → FindsSome items n ids → FindsSome items (n + 1) new
one_added items n i x ids new e same some none updates h id = by (bytes_eq x id) refl
  where
    at : (b : Bool) → bytes_eq x id ≡ b → index_at new id ≡ (if b then Some n else index_at ids id)
    at b e = btree_map_updates_str x ids new (Some n) updates id ∙ ap (λ b. if b then Some n else index_at ids id) e

    by : (b : Bool) → bytes_eq x id ≡ b → IsFound items (n + 1) id (index_at new id)
    by true p =
        let q : x ≡ id = (bytes_eq-Decides x id).0 p in
        rw (at true p) (found_here items n i id (index_at ids id) e (same ∙ q) (subst (λ y. y ≢ []) q some) (subst (λ y. is_some (index_at ids y) ≡ false) q none) (h id))
    by false p =
        rw (at false p) (found_more items n i id (index_at ids id) e (λ q. let t : true ≡ false = sym ((bytes_eq-Decides x id).1 (sym same ∙ q)) ∙ p in absurd (cc)) (h id))

pub none_found : (items : List Item) (ids : BTreeMap (Bor (List ℕ)) ℕ) → ids.entries ≡ [] → FindsSome items 0 ids
none_found items ids e id = rw e (inr tt)

all_found : (items : List Item) (n : ℕ) (id : List ℕ) (o : Option ℕ) → length items ≤ n → IsFound items n id o → IsIndexOf items id o
all_found items n id None l (inl x) = inl x
all_found items n id None l (inr x) = inr (lack_all (HasId id) items n l x)
all_found items n id (Some k) l h = h

pub all_added : (items : List Item) (n : ℕ) (ids : BTreeMap (Bor (List ℕ)) ℕ) → length items ≤ n → FindsSome items n ids → FindsFirsts items ids
all_added items n ids l h id = all_found items n id (index_at ids id) l (h id)
