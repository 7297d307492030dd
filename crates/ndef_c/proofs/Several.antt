-- Records that are written one after another.
use Rattle.std.proofs.Common.{◌≡◌, ℕ, zero, suc, ◌+◌, ◌-◌, ◌<◌, ◌≤◌, ◌==◌, ◌&&◌, Bool, true, false, List, [], ◌∷◌, ◌++◌, None, take, drop, get_or, map, length, length-append, refl, sym, ◌∙◌, ap, ap₂, subst, arith, append-nil, append_assoc, rules}
use Rattle.std.specs.List.{flat_map}
use Rattle.std.proofs.lemmas.List.{take_more}
use Rattle.std.proofs.lemmas.Option.{get_or_from_slice_get, slice_get-map, slice_get_within}
use Rattle.std.specs.Prelude.{IfSome, Option, Some, option_map, slice_get}
use Rattle.std.proofs.Math.Bool.{and-true, and-false, and_assoc}
use Rattle.ndef_format.specs.Canonical.{canonical, is_nil}
use Rattle.ndef_format.specs.Messages.{Item}
use Rattle.ndef_message.specs.declared.form.Form.TheVariants.{Short}
use Rattle.ndef_message.specs.Written.{ShortIsCanonical}
use Rattle.ndef_c.specs.PendingRecord.{made_item}
use Rattle.ndef_c.specs.Buffers.{Puts}
use Rattle.ndef_c.specs.RecordList.{IsWritten, place_after, left_octets}
use Rattle.ndef_c.specs.Writes.{one_by_one, record_octets}
use Rattle.ndef_c.specs.declared.making.PendingRecord.{PendingRecord}
use Rattle.ndef_c.specs.declared.out.Out.{Out}
use Rattle.ndef_c.specs.declared.series_writing.Place.{Place}
use Rattle.ndef_c.proofs.Puts.{puts_on}
use Rattle.ndef_c.proofs.Records.{records_joined}

-- ---- their octets

one_less : (left n : ℕ) → left - 1 - n ≡ left - suc n
one_less left n = omega arith

-- those of records and of others after them
pub left_on : (first : Bool) (left : ℕ) (xs ys : List Item) → left_octets first left (xs ++ ys) ≡ left_octets first left xs ++ left_octets (first && is_nil xs) (left - length xs) ys
left_on first left [] ys = ap₂ (λ f n. left_octets f n ys) (sym (and-true first)) (omega arith)
left_on first left (m ∷ xs) ys =
    ap (λ t. record_octets Short first (left == 1) None m ++ t) (left_on false (left - 1) xs ys ∙ ap₂ (λ f n. left_octets false (left - 1) xs ++ left_octets f n ys) (sym (and-false first)) (one_less left (length xs)))
    ∙ sym (append_assoc (record_octets Short first (left == 1) None m) (left_octets false (left - 1) xs) (left_octets (first && false) (left - suc (length xs)) ys))

last_left : (ms : List Item) → (suc (length ms) == 1) ≡ is_nil ms
last_left [] = refl
last_left (m ∷ ms) = search rules

-- where all of them are left, they are a message
pub left_all : (first : Bool) (left : ℕ) (items : List Item) → left ≡ length items → left_octets first left items ≡ one_by_one Short first None items
left_all first left [] e = refl
left_all first left (m ∷ ms) e =
    let less : left - 1 ≡ length ms = omega (arith, e) in
    ap₂ (λ l t. record_octets Short first l None m ++ t) (ap (λ n. n == 1) e ∙ last_left ms) (left_all false (left - 1) ms less)

-- ---- what is written

nil_both : (xs ys : List Item) → (is_nil xs && is_nil ys) ≡ is_nil (xs ++ ys)
nil_both [] ys = refl
nil_both (x ∷ xs) ys = refl

place_of : (k l : ℕ) (f g : Bool) → k ≡ l → f ≡ g → ◌≡◌ {A = Place} (record { left = k; first = f }) (record { left = l; first = g })
place_of k l f g e h = rw (e, h) refl

-- after records and others after them
pub after_on : (p : Place) (xs ys : List Item) → place_after (place_after p xs) ys ≡ place_after p (xs ++ ys)
after_on p xs ys =
    let k = length-append xs ys in
    place_of _ _ _ _ (omega (arith, k)) (and_assoc p.first (is_nil xs) (is_nil ys) ∙ ap (λ b. p.first && b) (nil_both xs ys))

-- nothing is written
pub written_none : (p : Place) {out : Out} → Puts out [] out → IsWritten p [] out out p
written_none p o = record { put = o; next = place_of _ _ _ _ (omega arith) (sym (and-true p.first)) }

-- records, and others after them
pub written_on : {p q r : Place} {xs ys : List Item} {old mid new : Out} → IsWritten p xs old mid q → IsWritten q ys mid new r → IsWritten p (xs ++ ys) old new r
written_on {p} {q} {r} {xs} {ys} {old} {mid} {new} w v = record {
  put = subst (λ t. Puts old t new) (ap (λ s. left_octets p.first p.left xs ++ left_octets s.first s.left ys) w.next ∙ sym (left_on p.first p.left xs ys)) (puts_on w.put v.put);
  next = v.next ∙ ap (λ s. place_after s ys) w.next ∙ after_on p xs ys;
}

-- after some of the records those that follow are left
pub left_of : {p q : Place} {xs : List Item} {old mid : Out} → IsWritten p xs old mid q → (ys zs : List Item) → length (xs ++ (ys ++ zs)) ≤ p.left → length ys ≤ q.left
left_of {p} {q} {xs} w ys zs h =
    let next = ap (λ s. s.left) w.next in
    let a = length-append xs (ys ++ zs) in
    let b = length-append ys zs in
    omega (arith, next, a, b, h)

-- ---- one more of some records

-- the list up to an index, and those after it
pub split_at_index : {X : Type 0} (xs : List X) (k : ℕ) (d : X) → k < length xs → xs ≡ take k xs ++ ((get_or xs k d ∷ []) ++ drop (suc k) xs)
split_at_index [] k d h = absurd (omega (arith, h))
split_at_index (x ∷ xs) zero d h = refl
split_at_index (x ∷ xs) (suc k) d h = ap (λ t. x ∷ t) (split_at_index xs k d (omega (arith, h)))

-- several lists joined, one more of them
pub all_more : {X Y : Type 0} (f : X → List Y) (xs : List X) (k : ℕ) (d : X) → k < length xs → flat_map f (take (suc k) xs) ≡ flat_map f (take k xs) ++ f (get_or xs k d)
all_more f [] k d h = absurd (omega (arith, h))
all_more f (x ∷ xs) zero d h = append-nil (f x)
all_more f (x ∷ xs) (suc k) d h = ap (λ t. f x ++ t) (all_more f xs k d (omega (arith, h))) ∙ sym (append_assoc (f x) (flat_map f (take k xs)) (f (get_or xs k d)))

-- several lists joined, up to an index and after it
pub all_split : {X Y : Type 0} (f : X → List Y) (xs : List X) (k : ℕ) (d : X) → k < length xs → flat_map f xs ≡ flat_map f (take k xs) ++ (f (get_or xs k d) ++ flat_map f (drop (suc k) xs))
all_split f [] k d h = absurd (omega (arith, h))
all_split f (x ∷ xs) zero d h = refl
all_split f (x ∷ xs) (suc k) d h =
    ap (λ t. f x ++ t) (all_split f xs k d (omega (arith, h))) ∙ sym (append_assoc (f x) (flat_map f (take k xs)) (f (get_or xs k d) ++ flat_map f (drop (suc k) xs)))

-- the records of one more element
pub items_more : {X : Type 0} (f : X → List Item) (xs : List X) (k : ℕ) (d : X) → k < length xs → flat_map f (take (k + 1) xs) ≡ flat_map f (take k xs) ++ f (get_or xs k d)
items_more f xs k d l = let next : k + 1 ≡ suc k = omega arith in ap (λ n. flat_map f (take n xs)) next ∙ all_more f xs k d l

-- ---- a step of a loop that writes records

-- of all records the next ones are left, and then more of them are written
pub record Step (p q : Place) (ys next : List Item) (old mid : Out) : Type 0 where
  pub left : length ys ≤ q.left
  pub on : (new : Out) (r : Place) → IsWritten q ys mid new r → IsWritten p next old new r

pub step : {p q : Place} {xs : List Item} {old mid : Out} (whole ys zs next : List Item) → whole ≡ xs ++ (ys ++ zs) → next ≡ xs ++ ys → length whole ≤ p.left → IsWritten p xs old mid q → Step p q ys next old mid
step {p} {q} {xs} {old} {mid} whole ys zs next e n left w = record {
  left = left_of w ys zs (subst (λ t. length t ≤ p.left) e left);
  on = λ new r v. subst (λ t. IsWritten p t old new r) (sym n) (written_on w v);
}

-- the record with an index is the next one
pub step_at : {p q : Place} {old mid : Out} (items : List Item) (k : ℕ) (m : Item) → slice_get items k ≡ Some m → length items ≤ p.left → IsWritten p (take k items) old mid q → Step p q (m ∷ []) (take (k + 1) items) old mid
step_at {p} {q} {old} {mid} items k m at left w =
    let l = slice_get_within items k m at in
    let e = get_or_from_slice_get items k m m at in
    step items (m ∷ []) (drop (suc k) items) (take (k + 1) items) (split_at_index items k m l ∙ ap (λ i. take k items ++ ((i ∷ []) ++ drop (suc k) items)) e)
    (take_more items k m l ∙ ap (λ i. take k items ++ i ∷ []) e) left w

-- the records of the element with an index are the next ones
pub step_all : {X : Type 0} {p q : Place} {old mid : Out} (f : X → List Item) (xs : List X) (k : ℕ) (d : X) → k < length xs → length (flat_map f xs) ≤ p.left → IsWritten p (flat_map f (take k xs)) old mid q
    → Step p q (f (get_or xs k d)) (flat_map f (take (k + 1) xs)) old mid
step_all {X} {p} {q} {old} {mid} f xs k d l left w =
    step (flat_map f xs) (f (get_or xs k d)) (flat_map f (drop (suc k) xs)) (flat_map f (take (k + 1) xs)) (all_split f xs k d l) (items_more f xs k d l) left w

-- the record of an element with an index
pub item_at : {X : Type 0} (r : Option PendingRecord) (f : X → Item) (xs : List X) (k : ℕ) (x : X) → slice_get xs k ≡ Some x → IfSome r (λ m. made_item m ≡ f x)
    → IfSome r (λ m. slice_get (map f xs) k ≡ Some (made_item m))
item_at None f xs k x e h = h
item_at (Some m) f xs k x e h = slice_get-map f xs k ∙ ap (option_map f) e ∙ ap Some (sym h)

-- ---- a message of all records

-- the octets are its canonical spelling
pub left_canonical : ShortIsCanonical → (items : List Item) (left : ℕ) → left ≡ length items → left_octets true left items ≡ canonical items
left_canonical short items left e = left_all true left items e ∙ records_joined true Short None items ∙ short items
