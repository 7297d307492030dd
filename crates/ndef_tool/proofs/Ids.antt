-- The records of a message, from the last on, by their ids.
use Rattle.std.proofs.Common.{◌≡◌, ◌≢◌, ℕ, zero, suc, ◌+◌, Bool, true, false, Bor, List, [], ◌∷◌, drop, refl, sym, ◌∙◌, ap, subst, arith, inr, Option, Some, None, bytes_eq}
use Rattle.std.specs.Prelude.{slice_get, if◌then◌else◌}
use Rattle.std.specs.BTreeMap.{BTreeMap, UpdatesBy}
use Rattle.std.specs.Cmp.Lexicographic.{slice_cmp}
use Rattle.std.specs.Ordering.{nat_cmp}
use Rattle.std.proofs.lemmas.Map.Text.{btree_map_updates_str}
use Rattle.std.proofs.lemmas.Slice.Eq.{bytes_eq-Decides}
use Rattle.ndef_format.specs.Messages.{Item}
use Rattle.ndef_types.specs.Contents.{IsFirstAt, Lack}
use Rattle.ndef_types.specs.Ids.{index_at}
use Rattle.ndef_types.specs.Links.{HasId, IsIndexOf}

-- the index of the first record with the id, where the first of these records has the index n
abbrev pub first_index : ℕ → List ℕ → List Item → Option ℕ
first_index n id [] = None
first_index n id (i ∷ items) = if bytes_eq i.id id then Some n else first_index (n + 1) id items

pub from_there : (items : List Item) (n : ℕ) (i : Item) → slice_get items n ≡ Some i → drop n items ≡ i ∷ drop (n + 1) items
from_there [] n i e = absurd (cc)
from_there (j ∷ items) zero i e = cc
from_there (j ∷ items) (suc n) i e =
    let m : suc n + 1 ≡ suc (n + 1) = omega arith in
    from_there items n i e ∙ ap (λ k. i ∷ drop k (j ∷ items)) (sym m)

-- one record more in front
pub one_added : (items : List Item) (n : ℕ) (i : Item) (x id : List ℕ) (ids new : BTreeMap (Bor (List ℕ)) ℕ) → slice_get items n ≡ Some i → i.id ≡ x
    → UpdatesBy (λ a b. slice_cmp nat_cmp a.now b.now) (λ k. slice_cmp nat_cmp x k.now) ids new (Some n)
    → index_at ids id ≡ first_index (n + 1) id (drop (n + 1) items) → index_at new id ≡ first_index n id (drop n items)
one_added items n i x id ids new e same updates h =
    btree_map_updates_str x ids new (Some n) updates id
    ∙ ap (λ o. if bytes_eq x id then Some n else o) h
    ∙ ap (λ y. if bytes_eq y id then Some n else first_index (n + 1) id (drop (n + 1) items)) (sym same)
    ∙ sym (ap (first_index n id) (from_there items n i e))

abbrev FirstFrom : ℕ → List ℕ → List Item → Option ℕ → Type 0
FirstFrom n id items None = Lack (HasId id) items
FirstFrom n id items (Some k) = (j : ℕ) × (k ≡ n + j) × (i : Item) × IsFirstAt (HasId id) items j i

later : (n : ℕ) (id : List ℕ) (i : Item) (items : List Item) (o : Option ℕ) → FirstFrom (n + 1) id items o → i.id ≢ id → FirstFrom n id (i ∷ items) o
later n id i items None h other = (other, h)
later n id i items (Some k) (j, e, x, f) other = (suc j, omega (arith, e), x, record { at = f.at; has = f.has; before = (other, f.before) })

first_from : (n : ℕ) (id : List ℕ) (items : List Item) → FirstFrom n id items (first_index n id items)
first_from n id [] = tt
first_from n id (i ∷ items) = by (bytes_eq i.id id) refl (first_from (n + 1) id items)
  where
    by : (b : Bool) → bytes_eq i.id id ≡ b → FirstFrom (n + 1) id items (first_index (n + 1) id items)
        → FirstFrom n id (i ∷ items) (if b then Some n else first_index (n + 1) id items)
    by true e h = (0, omega arith, i, record { at = refl; has = (bytes_eq-Decides i.id id).0 e; before = tt })
    by false e h =
        later n id i items (first_index (n + 1) id items) h
        (λ same. let t : true ≡ false = sym ((bytes_eq-Decides i.id id).1 same) ∙ e in cc)

found : (items : List Item) (id : List ℕ) (o : Option ℕ) → id ≢ [] → FirstFrom 0 id items o → IsIndexOf items id o
found items id None some h = inr h
found items id (Some k) some (j, e, i, f) =
    let same : j ≡ k = omega (arith, e) in (some, i, subst (λ n. IsFirstAt (HasId id) items n i) same f)

pub all_found : (items : List Item) (id : List ℕ) (o : Option ℕ) → o ≡ first_index 0 id items → id ≢ [] → IsIndexOf items id o
all_found items id o e some = subst (IsIndexOf items id) (sym e) (found items id (first_index 0 id items) some (first_from 0 id items))
