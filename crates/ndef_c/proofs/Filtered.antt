-- The elements of a list that pass a test, and the records of a message that are wanted.
use Rattle.std.proofs.Common.{◌≡◌, ℕ, ◌+◌, Bool, true, false, List, [], ◌∷◌, ◌++◌, length, length-append, refl, sym, ◌∙◌, ap, append-nil, Some}
use Rattle.std.specs.Prelude.{if◌then◌else◌, filter, slice_get}
use Rattle.std.proofs.lemmas.List.Elements.{filter-append}
use Rattle.ndef_format.specs.Messages.{Item, run_record}
use Rattle.ndef_c.specs.RecordQuery.{IsExpectedAt}
use Rattle.ndef_c.specs.declared.record.NdefRecord.{NdefRecord}
use Rattle.ndef_c.specs.declared.walk.Walk.{Walk}
use Rattle.ndef_c.proofs.Ahead.{Reached, get_after}
use Rattle.ndef_c.proofs.Walking.{Here}

-- one more that passes it
pub filter_more : {T : Type 0} (test : T → Bool) (xs : List T) (x : T) → test x ≡ true → filter test (xs ++ x ∷ []) ≡ filter test xs ++ x ∷ []
filter_more test xs x e = filter-append test xs (x ∷ []) ∙ ap (λ b. filter test xs ++ (if b then x ∷ [] else [])) e

-- one more that doesn't
pub filter_same : {T : Type 0} (test : T → Bool) (xs : List T) (x : T) → test x ≡ false → filter test (xs ++ x ∷ []) ≡ filter test xs
filter_same test xs x e = filter-append test xs (x ∷ []) ∙ ap (λ b. filter test xs ++ (if b then x ∷ [] else [])) e ∙ append-nil (filter test xs)

-- the number that pass it, with one more
pub count_more : {T : Type 0} (test : T → Bool) (xs : List T) (x : T) → test x ≡ true → length (filter test (xs ++ x ∷ [])) ≡ length (filter test xs) + 1
count_more test xs x e = ap length (filter_more test xs x e) ∙ length-append (filter test xs) (x ∷ [])

pub count_same : {T : Type 0} (test : T → Bool) (xs : List T) (x : T) → test x ≡ false → length (filter test (xs ++ x ∷ [])) ≡ length (filter test xs)
count_same test xs x e = ap length (filter_same test xs x e)

pub filter_with : {T : Type 0} (test : T → Bool) (all xs : List T) (x : T) → (w : (more : List T) × (all ≡ xs ++ x ∷ more)) → test x ≡ true → filter test all ≡ filter test xs ++ x ∷ filter test w.0
filter_with test all xs x w e =
    ap (filter test) w.1 ∙ filter-append test xs (x ∷ w.0) ∙ ap (λ b. filter test xs ++ (if b then x ∷ filter test w.0 else filter test w.0)) e

-- the index of one that passes it
pub filter_at : {T : Type 0} (test : T → Bool) (all xs : List T) (x : T) → (w : (more : List T) × (all ≡ xs ++ x ∷ more)) → test x ≡ true → slice_get (filter test all) (length (filter test xs)) ≡ Some x
filter_at test all xs x w e =
    ap (λ ys. slice_get ys (length (filter test xs))) (filter_with test all xs x w e) ∙ get_after (filter test xs) x (filter test w.0)

-- the record that a walk passes is wanted
pub expected_at : (expected : Item → Bool) {message : List ℕ} {items done : List Item} {w : Walk} {r : NdefRecord} {after : Walk} (h : Here message w r after) → Reached items message done r h.there.run after → expected (run_record h.there.run) ≡ true
    → IsExpectedAt expected message items (length (filter expected done)) r
expected_at expected {done = done} {w = w} h r k =
    record { from = w.at; there = h.there; before = done; after = r.within.0; all = r.within.1; is_expected = k; index_is = refl; one = r.one; stands = r.stands }

-- it has that index
pub index_of_expected : (expected : Item → Bool) (message : List ℕ) (items : List Item) (index : ℕ) (r : NdefRecord) → (i : IsExpectedAt expected message items index r) → slice_get (filter expected items) index ≡ Some (run_record i.there.run)
index_of_expected expected message items index r i = ap (slice_get (filter expected items)) (sym i.index_is) ∙ filter_at expected items i.before (run_record i.there.run) (i.after, i.all) i.is_expected
