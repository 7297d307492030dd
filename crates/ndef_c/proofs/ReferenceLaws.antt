-- The references of a handover, beside what other calls give of them.
use Rattle.std.proofs.Common.{◌≡◌, ℕ, zero, suc, ◌+◌, ◌≤◌, List, [], ◌∷◌, length, take, drop, map, refl, sym, ◌∙◌, ap, subst, arith, Option, None, Some}
use Rattle.std.specs.Prelude.{unwrap_or}
use Rattle.std.proofs.lemmas.List.{drop-drop}
use Rattle.ndef_format.specs.Handovers.{IsAlternative}
use Rattle.ndef_format.specs.Messages.{Item, run_record}
use Rattle.ndef_format.specs.Records.{Run}
use Rattle.ndef_types.specs.Decoding.{OneValue}
use Rattle.ndef_types.specs.Values.{AcValue, StandsForAc}
use Rattle.ndef_c.specs.Alternatives.{IsReferencePart}
use Rattle.ndef_c.specs.HandoverItems.{IsReferenceItem, LinksAreItems, ReferencesAreItems, name_in}
use Rattle.ndef_c.specs.Links.{FindsRecord, TellsPlace}
use Rattle.ndef_c.specs.Walks.{Lies}
use Rattle.ndef_c.specs.declared.message.Place.{Place}
use Rattle.ndef_c.specs.declared.reference_items.NdefReferenceItem.{NdefReferenceItem}
use Rattle.ndef_c.proofs.Linked.{index_once}

pub references_are : OneValue IsAlternative StandsForAc → ReferencesAreItems
references_are one payload index ac v number out part i s r =
    let e = one ac.payload r.alternative v r.in_set r.stands s in
    let p = subst (λ w. IsReferencePart ac.payload w number part) e r.is in
    let name = ap (λ o. unwrap_or o []) (sym i.is.lies.1 ∙ p.lies.1) in
    let same = i.is.lies.2.count_is ∙ ap length name ∙ sym p.lies.2.count_is in
    (i.at ∙ ap (λ k. out.carrier_at + k) (i.is.place ∙ sym p.place), i.length_is ∙ same)

-- what lies in a part lies in the whole
inside : (m b n : ℕ) (xs : List ℕ) → b + m ≤ n → take m (drop b (take n xs)) ≡ take m (drop b xs)
inside zero b n xs l = refl
inside (suc m) zero zero xs l = absurd (omega (arith, l))
inside (suc m) zero (suc n) [] l = refl
inside (suc m) zero (suc n) (x ∷ xs) l = ap (λ ys. x ∷ ys) (inside m zero n xs (omega (arith, l)))
inside (suc m) (suc b) zero xs l = absurd (omega (arith, l))
inside (suc m) (suc b) (suc n) [] l = refl
inside (suc m) (suc b) (suc n) (x ∷ xs) l = inside (suc m) b n xs (omega (arith, l))

lies_inside : (payload s t : List ℕ) (a b n m : ℕ) → Lies payload a n s → Lies s b m t → take m (drop (a + b) payload) ≡ t
lies_inside payload s t a b n m h k =
    let within = k.within in
    let size = h.count_is in
    ap (take m) (sym (drop-drop b a payload)) ∙ sym (inside m b n (drop a payload) (omega (arith, within, size))) ∙ ap (λ xs. take m (drop b xs)) h.are ∙ k.are

-- a reference of an item, where it lies
name_is : (payload : List ℕ) (index : ℕ) (ac : Item) (v : AcValue) (out : NdefReferenceItem) → IsReferenceItem payload index ac v 0 out → name_in payload out ≡ v.reference
name_is payload index ac v out i =
    ap (λ n. take n (drop out.at payload)) i.length_is ∙ ap (λ k. take i.part.length (drop k payload)) i.at
    ∙ lies_inside payload ac.payload i.is.lies.0 out.carrier_at i.part.at (length ac.payload) i.part.length i.carrier_there.lies i.is.lies.2
    ∙ ap (λ o. unwrap_or o []) (sym i.is.lies.1)

same_record : (bytes : List ℕ) (runs : List Run) (id : List ℕ) (p q : Option Place) (has index at own number place : ℕ) → FindsRecord bytes runs id p → FindsRecord bytes runs id q → TellsPlace p has index at → TellsPlace q own number place
    → (has ≡ own) × (index ≡ number)
same_record bytes runs id None None has index at own number place f g t u = (t.0 ∙ sym u.0, t.1 ∙ sym u.1)
same_record bytes runs id None (Some q) has index at own number place f g t u = absurd (let e = index_once (map run_record runs) id None (Some q.index) f g.0 in cc)
same_record bytes runs id (Some p) None has index at own number place f g t u = absurd (let e = index_once (map run_record runs) id (Some p.index) None f.0 g in cc)
same_record bytes runs id (Some p) (Some q) has index at own number place f g t u =
    let e = index_once (map run_record runs) id (Some p.index) (Some q.index) f.0 g.0 in
    (t.0 ∙ sym u.0, t.1 ∙ ap (λ o. unwrap_or o 0) e ∙ sym u.1)

pub links_are : OneValue IsAlternative StandsForAc → LinksAreItems
links_are one bytes payload index ac v out k link i s r h at count =
    let there = i.carrier_there in
    let same : h.carrier.payload ≡ ac.payload = sym h.lies.are ∙ ap (λ n. take n (drop link.carrier_at payload)) (count ∙ i.carrier_length) ∙ ap (λ a. take (length ac.payload) (drop a payload)) at ∙ there.lies.are in
    let e = one ac.payload h.alternative v there.in_set (subst (λ b. StandsForAc b h.alternative) same h.stands) s in
    let f = h.refers in
    let g = r h.runs h.message in
    same_record bytes h.runs v.reference f.0 g.0 _ _ _ _ _ _ (subst (λ w. FindsRecord bytes h.runs w.reference f.0) e f.1) (subst (λ n. FindsRecord bytes h.runs n g.0) (name_is payload index ac v out i) g.1) f.2 g.2
