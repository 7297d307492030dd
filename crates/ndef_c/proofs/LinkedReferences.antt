-- The records to which references refer, among those of a message so far.
use Rattle.std.proofs.Common.{◌≡◌, ◌≢◌, ℕ, zero, suc, ◌+◌, ◌-◌, ◌<◌, ◌≤◌, Bool, true, false, List, [], ◌∷◌, ◌++◌, length, drop, map, take, get_or, below_more, refl, sym, ◌∙◌, ap, subst, arith, true≢false, inl, inr, is_lt, ◌⊎◌, None, Some}
use Rattle.std.specs.Cmp.Lexicographic.{slice_cmp}
use Rattle.std.specs.List.Sorted.{IsPartitionPoint, IsPartitionedBy, IsSortedBy}
use Rattle.std.specs.Ordering.{nat_cmp}
use Rattle.std.specs.Prelude.{slice_get, slice_set}
use Rattle.std.proofs.lemmas.Cmp.{nat_list_cmp_total}
use Rattle.std.proofs.lemmas.List.{get_or-set_other, get_or-set_same, get_or_default, map-append}
use Rattle.std.proofs.lemmas.List.Sorted.{searchable_from_sorted}
use Rattle.std.proofs.lemmas.Slice.Eq.{bytes_eq-Decides}
use Rattle.std.proofs.Math.Decide.{dec_lt}
use Rattle.std.specs.Str.{bytes_eq}
use Rattle.ndef_format.specs.Messages.{run_record}
use Rattle.ndef_format.specs.Records.{Run}
use Rattle.ndef_types.specs.Contents.{IsFirstAt, Lack}
use Rattle.ndef_types.specs.Links.{HasId, IsIndexOf}
use Rattle.ndef_c.specs.HandoverItems.{HasNoRecord, Refers, RefersAmong, name_in, without_record}
use Rattle.ndef_c.specs.Links.{FindsRecord, TellsPlace}
use Rattle.ndef_c.specs.ReferenceOrder.{IsHead, Links, has_smaller_name}
use Rattle.ndef_c.specs.Walks.{BeginsWithRun, LieBetween}
use Rattle.ndef_c.specs.declared.message.Place.{Place}
use Rattle.ndef_c.specs.declared.reference_items.NdefReferenceItem.{NdefReferenceItem}
use Rattle.ndef_c.proofs.Messages.{index_of, lack_all, place_of}
use Rattle.ndef_c.proofs.ReferenceOrders.{less_first, not_below_itself, same_from_neither, same_name}

-- ---- the first of the references that are an id

-- those before a place are less than it
pub parted : (payload id : List ℕ) (items : List NdefReferenceItem) → IsSortedBy (has_smaller_name payload) items → IsPartitionedBy (λ r. is_lt (slice_cmp nat_cmp (name_in payload r) id)) items
parted payload id items up = λ i j d l n e. less_first _ _ (searchable_from_sorted nat_list_cmp_total (name_in payload) items id up i j d l n) e

-- one that is the id, and not the same as the one before it, is at that place
pub head_is_first : (payload id : List ℕ) (items : List NdefReferenceItem) (first k : ℕ) (d : NdefReferenceItem) → IsSortedBy (has_smaller_name payload) items
    → IsPartitionPoint (λ r. is_lt (slice_cmp nat_cmp (name_in payload r) id) ≡ true) (λ r. is_lt (slice_cmp nat_cmp (name_in payload r) id) ≡ false) items first
    → k < length items → IsHead payload items k → name_in payload (get_or items k d) ≡ id → k ≡ first
head_is_first payload id items first k d up p l h e = by_order (dec_lt k first) (dec_lt first k)
  where
    none_before : k < first → ⊥
    none_before m = true≢false (sym (p.0 k d (omega arith) m) ∙ ap (λ n. is_lt (slice_cmp nat_cmp n id)) e ∙ not_below_itself id)

    before_is : first < k → name_in payload (get_or items (k - 1) d) ≡ name_in payload (get_or items k d)
    before_is m =
        let place : k - 1 + 1 ≡ k = omega (arith, m) in
        let falls = up (k - 1) d (omega arith) (omega (arith, m, l)) in
        let here : is_lt (slice_cmp nat_cmp (name_in payload (get_or items k d)) (name_in payload (get_or items (k - 1) d))) ≡ false = subst (λ j. is_lt (slice_cmp nat_cmp (name_in payload (get_or items j d)) (name_in payload (get_or items (k - 1) d))) ≡ false) place falls in
        let there : is_lt (slice_cmp nat_cmp (name_in payload (get_or items (k - 1) d)) (name_in payload (get_or items k d))) ≡ false = ap (λ n. is_lt (slice_cmp nat_cmp (name_in payload (get_or items (k - 1) d)) n)) e ∙ p.1 (k - 1) d (omega (arith, m)) (omega (arith, m, l)) in
        same_from_neither (name_in payload (get_or items (k - 1) d)) (name_in payload (get_or items k d)) there here

    none_after : first < k → IsHead payload items k → ⊥
    none_after m (inl z) = omega (arith, m, z)
    none_after m (inr f) = f d (before_is m)

    by_order : Dec (k < first) → Dec (first < k) → k ≡ first
    by_order (yes m) n = absurd (none_before m)
    by_order (no m) (yes n) = absurd (none_after n h)
    by_order (no m) (no n) = omega (arith, m, n)

-- where none is given a record, each is as it was
pub none_linked : (payload id : List ℕ) (place : Place) (items : List NdefReferenceItem) (first k : ℕ) (d : NdefReferenceItem) → IsSortedBy (has_smaller_name payload) items
    → IsPartitionPoint (λ r. is_lt (slice_cmp nat_cmp (name_in payload r) id) ≡ true) (λ r. is_lt (slice_cmp nat_cmp (name_in payload r) id) ≡ false) items first
    → k < length items → IsHead payload items k → (k ≡ first → (name_in payload (get_or items k d) ≢ id) ⊎ ((get_or items k d).has_record ≢ 0)) → Links payload id place (get_or items k d) (get_or items k d)
none_linked payload id place items first k d up p l h f = by_name (bytes_eq (name_in payload (get_or items k d)) id) refl
  where
    by_name : (b : Bool) → bytes_eq (name_in payload (get_or items k d)) id ≡ b → Links payload id place (get_or items k d) (get_or items k d)
    by_name true e = inr (f (head_is_first payload id items first k d up p l h ((bytes_eq-Decides (name_in payload (get_or items k d)) id).0 e)), refl)
    by_name false e = inr (inl (λ n. true≢false (sym ((bytes_eq-Decides (name_in payload (get_or items k d)) id).1 n) ∙ e)), refl)

-- where the one at that place is given one, each other one is as it was
pub one_linked : (payload id : List ℕ) (place : Place) (items : List NdefReferenceItem) (first k : ℕ) (d e new : NdefReferenceItem) → IsSortedBy (has_smaller_name payload) items
    → IsPartitionPoint (λ r. is_lt (slice_cmp nat_cmp (name_in payload r) id) ≡ true) (λ r. is_lt (slice_cmp nat_cmp (name_in payload r) id) ≡ false) items first
    → k < length items → IsHead payload items k → first < length items → name_in payload (get_or items first e) ≡ id → (get_or items first e).has_record ≡ 0
    → TellsPlace (Some place) new.has_record new.record_index new.record_at → Links payload id place (get_or items k d) (get_or (slice_set items first new) k d)
one_linked payload id place items first k d e new up p l h m name none tells = by_order (dec_lt k first) (dec_lt first k)
  where
    other : k ≢ first → Links payload id place (get_or items k d) (get_or (slice_set items first new) k d)
    other n = inr (inl (λ f. n (head_is_first payload id items first k d up p l h f)), get_or-set_other items first k new d n)

    here : k ≡ first → Links payload id place (get_or items k d) (get_or (slice_set items first new) k d)
    here f =
        let one : get_or items k d ≡ get_or items first e = ap (λ j. get_or items j d) f ∙ get_or_default items first d e m in
        let set : get_or (slice_set items first new) k d ≡ new = ap (λ j. get_or (slice_set items first new) j d) f ∙ get_or-set_same items first new d m in
        inl (ap (name_in payload) one ∙ name, ap (λ r. r.has_record) one ∙ none, subst (λ r. TellsPlace (Some place) r.has_record r.record_index r.record_at) (sym set) tells)

    by_order : Dec (k < first) → Dec (first < k) → Links payload id place (get_or items k d) (get_or (slice_set items first new) k d)
    by_order (yes m) n = other (λ f. omega (arith, m, f))
    by_order (no m) (yes n) = other (λ f. omega (arith, n, f))
    by_order (no m) (no n) = here (omega (arith, m, n))

-- ---- one more record

at_still : {T : Type 0} (xs : List T) (x y : T) (k : ℕ) → slice_get xs k ≡ Some y → slice_get (xs ++ x ∷ []) k ≡ Some y
at_still [] x y k e = absurd (cc)
at_still (z ∷ xs) x y zero e = e
at_still (z ∷ xs) x y (suc k) e = at_still xs x y k e

front_still : {T : Type 0} (xs : List T) (x y : T) (k : ℕ) → slice_get xs k ≡ Some y → take k (xs ++ x ∷ []) ≡ take k xs
front_still [] x y k e = absurd (cc)
front_still (z ∷ xs) x y zero e = refl
front_still (z ∷ xs) x y (suc k) e = ap (λ zs. z ∷ zs) (front_still xs x y k e)

-- what is found is found still
found_still : (bytes : List ℕ) (done : List Run) (run : Run) (id : List ℕ) (p : Place) → FindsRecord bytes done id (Some p) → FindsRecord bytes (done ++ run ∷ []) id (Some p)
found_still bytes done run id p ((some, i, f), there) =
    let all = map-append run_record done (run ∷ []) in (
      (
        some,
        i,
        subst (λ xs. IsFirstAt (HasId id) xs p.index i) (sym all) (record {
          at = at_still (map run_record done) (run_record run) i p.index f.at;
          has = f.has;
          before = subst (Lack (HasId id)) (sym (front_still (map run_record done) (run_record run) i p.index f.at)) f.before;
        }),
      ),
      record {
        run = there.run;
        is = at_still done run there.run p.index there.is;
        before = subst (λ rs. LieBetween bytes 0 rs p.at) (sym (front_still done run there.run p.index there.is)) there.before;
        rest = there.rest;
        begins = there.begins;
      },
    )

-- what isn't found is not found still, unless it is the id of the record
pub none_still : (done : List Run) (run : Run) (id : List ℕ) → (HasId id (run_record run) → id ≡ []) → IsIndexOf (map run_record done) id None → IsIndexOf (map run_record (done ++ run ∷ [])) id None
none_still done run id other (inl e) = inl e
none_still done run id other (inr lack) = by_id (bytes_eq (run_record run).id id) refl
  where
    by_id : (b : Bool) → bytes_eq (run_record run).id id ≡ b → IsIndexOf (map run_record (done ++ run ∷ [])) id None
    by_id true e = inl (other ((bytes_eq-Decides (run_record run).id id).0 e))
    by_id false e = inr (lack_all done run id lack (λ h. true≢false (sym ((bytes_eq-Decides (run_record run).id id).1 h) ∙ e)))

-- a reference that is not the id of the record, or has one, refers to what it referred to
pub refers_still : (bytes payload : List ℕ) (done : List Run) (run : Run) (r : NdefReferenceItem) → ((r.has_record ≡ 0) → HasId (name_in payload r) (run_record run) → name_in payload r ≡ []) → RefersAmong bytes payload done r
    → RefersAmong bytes payload (done ++ run ∷ []) r
refers_still bytes payload done run r other (None, f, t) = (None, none_still done run (name_in payload r) (other t.0) f, t)
refers_still bytes payload done run r other (Some p, f, t) = (Some p, found_still bytes done run (name_in payload r) p f, t)

-- one that has no record refers to none so far
pub lacks : (bytes payload : List ℕ) (done : List Run) (r : NdefReferenceItem) → r.has_record ≡ 0 → name_in payload r ≢ [] → RefersAmong bytes payload done r → Lack (HasId (name_in payload r)) (map run_record done)
lacks bytes payload done r none some (None, inl e, t) = absurd (some e)
lacks bytes payload done r none some (None, inr lack, t) = lack
lacks bytes payload done r none some (Some p, f, t) = absurd (let one = t.0 in omega (arith, one, none))

-- no record is so far
pub refers_first : (bytes payload : List ℕ) (r : NdefReferenceItem) → HasNoRecord r → RefersAmong bytes payload [] r
refers_first bytes payload r h = (None, inr tt, (h.has, h.index, h.at))

-- ---- a loop over the references

-- one more of them has the property
pub below_set : (P : NdefReferenceItem → Type 0) (items : List NdefReferenceItem) (index : ℕ) (new : NdefReferenceItem) → index < length items → P new → ((k : ℕ) (d : NdefReferenceItem) → k < index → P (get_or items k d))
    → (k : ℕ) (d : NdefReferenceItem) → k < index + 1 → P (get_or (slice_set items index new) k d)
below_set P items index new l p h k d m =
    below_more (λ j. (e : NdefReferenceItem) → P (get_or (slice_set items index new) j e)) index (λ j n e. subst P (sym (get_or-set_other items index j new e (λ same. omega (arith, n, same)))) (h j e n)) (λ e. subst P (sym (get_or-set_same items index new e l)) p) k m d

-- ---- a record that a walk passes

pub head_alike : (payload : List ℕ) (xs ys : List NdefReferenceItem) (k : ℕ) → map without_record xs ≡ map without_record ys → k < length xs → IsHead payload xs k → IsHead payload ys k
head_alike payload xs ys k e l (inl z) = inl z
head_alike payload xs ys k e l (inr f) = inr (λ d n. f d (same_name payload xs ys e (k - 1) d (omega (arith, l)) ∙ n ∙ sym (same_name payload xs ys e k d l)))

-- a record without an id
pub passes_unnamed : (bytes payload : List ℕ) (done : List Run) (run : Run) (r : NdefReferenceItem) → (run_record run).id ≡ [] → RefersAmong bytes payload done r → RefersAmong bytes payload (done ++ run ∷ []) r
passes_unnamed bytes payload done run r e h = refers_still bytes payload done run r (λ none has. sym has ∙ e) h

-- a record with one
pub passes : (bytes payload : List ℕ) (runs done : List Run) (run : Run) (at next : ℕ) (place : Place) (before after : NdefReferenceItem) → 0 < length (run_record run).id → LieBetween bytes 0 done at → BeginsWithRun run (drop next bytes) (drop at bytes)
    → place.index ≡ length done → place.at ≡ at → without_record after ≡ without_record before → Links payload (run_record run).id place before after → RefersAmong bytes payload done before → RefersAmong bytes payload (done ++ run ∷ []) after
passes bytes payload runs done run at next place before after some lie b n p same (inl l) h =
    let name : name_in payload after ≡ (run_record run).id = ap (name_in payload) same ∙ l.0 in
    let named : (run_record run).id ≢ [] = λ e. let none = ap length e in omega (arith, none, some) in
    let lack = subst (λ s. Lack (HasId s) (map run_record done)) l.0 (lacks bytes payload done before l.1 (λ e. named (sym l.0 ∙ e)) h) in
    let found = index_of (done ++ run ∷ []) done run [] (run_record run).id place.index refl some n lack refl in
    let there = place_of bytes (done ++ run ∷ []) done run [] at next place refl lie b n p in
    (Some place, subst (λ s. FindsRecord bytes (done ++ run ∷ []) s (Some place)) (sym name) (found, there), l.2)
passes bytes payload runs done run at next place before after some lie b n p same (inr l) h =
    subst (RefersAmong bytes payload (done ++ run ∷ [])) (sym l.1) (refers_still bytes payload done run before (other l.0) h)
  where
    other : (name_in payload before ≢ (run_record run).id) ⊎ (before.has_record ≢ 0) → before.has_record ≡ 0 → HasId (name_in payload before) (run_record run) → name_in payload before ≡ []
    other (inl f) z has = absurd (f (sym has))
    other (inr f) z has = absurd (f z)

-- a reference that is not the one before it
pub not_alike : (payload : List ℕ) (old items : List NdefReferenceItem) (index : ℕ) (d e : NdefReferenceItem) → map without_record items ≡ map without_record old → 1 ≤ index → index < length items
    → name_in payload (get_or items (index - 1) d) ≢ name_in payload (get_or items index e) → IsHead payload old index
not_alike payload old items index d e same some l other = inr (λ f n. other (
    ap (name_in payload) (get_or_default items (index - 1) d f (omega (arith, l)))
    ∙ same_name payload items old same (index - 1) f (omega (arith, l)) ∙ n ∙ sym (same_name payload items old same index f l)
    ∙ ap (name_in payload) (get_or_default items index f e l)
    ))

-- one that is gets its record
pub refers_as : (bytes payload : List ℕ) (items : List NdefReferenceItem) (k : ℕ) (d e new : NdefReferenceItem) → k < length items → name_in payload (get_or items k e) ≡ name_in payload new → new.has_record ≡ (get_or items k e).has_record
    → new.record_index ≡ (get_or items k e).record_index → new.record_at ≡ (get_or items k e).record_at → Refers bytes payload (get_or items k d) → Refers bytes payload new
refers_as bytes payload items k d e new l n h i a r = λ runs b.
    let f = subst (RefersAmong bytes payload runs) (get_or_default items k d e l) (r runs b) in
    (f.0, subst (λ s. FindsRecord bytes runs s f.0) n f.1, rw (h, i, a) f.2)
