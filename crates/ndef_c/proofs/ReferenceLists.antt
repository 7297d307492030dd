-- The references of a handover, one alternative carrier after another.
use Rattle.std.proofs.Common.{◌≡◌, ◌≢◌, ◌<◌, ◌⊎◌, inl, inr, ℕ, ◌+◌, ◌%◌, ◌≤◌, true, List, [], ◌∷◌, ◌++◌, length, sum_by, append_assoc, append-nil, drop, get_or, refl, sym, ◌∙◌, ap, subst, arith}
use Rattle.std.specs.List.{AllByRecursion}
use Rattle.std.proofs.lemmas.List.Sums.{sum_by-append, sum_by-cons}
use Rattle.ndef_value.specs.ListLaws.{all_append}
use Rattle.ndef_format.specs.Handovers.{IsAlternative}
use Rattle.ndef_format.specs.Messages.{Item, run_record}
use Rattle.ndef_format.specs.Nested.{IsNest}
use Rattle.ndef_format.specs.declared.profile.Profile.{Profile}
use Rattle.ndef_format.specs.declared.table.Table.{Table}
use Rattle.ndef_format.specs.declared.table.Table.TheVariants.{SmartPoster, Request, Select}
use Rattle.ndef_types.specs.Links.{alternatives}
use Rattle.ndef_types.specs.Values.{AcValue, StandsForAc, power_code}
use Rattle.ndef_c.specs.Alternatives.{IsReferencePart}
use Rattle.ndef_c.specs.Arrays.{EachAt, set_over}
use Rattle.ndef_c.specs.HandoverItems.{AreOfCarrier, AreReferenceItems, HasCarriers, HasNoRecord, IsCarrierAt, IsReferenceItem, IsReferenceOf, reference_count, references_of}
use Rattle.ndef_c.specs.Nested.{StandsAt}
use Rattle.ndef_c.specs.ReferenceOrder.{ArePlaced}
use Rattle.ndef_c.specs.Walks.{Lies}
use Rattle.ndef_c.specs.declared.record.NdefRecord.{NdefRecord}
use Rattle.ndef_c.specs.declared.reference_items.Carrier.{Carrier}
use Rattle.ndef_c.specs.declared.reference_items.NdefReferenceItem.{NdefReferenceItem}
use Rattle.ndef_c.specs.declared.walk.Walk.{Walk}
use Rattle.ndef_c.proofs.Ahead.{Ahead, Reached}
use Rattle.ndef_c.proofs.Alternatives.{ac_at, names_count}
use Rattle.ndef_c.proofs.Filtered.{filter_at, filter_with}
use Rattle.ndef_c.proofs.Handovers.{each_alternative, is_alternative_at, is_carrier, members, request_nest, select_nest}
use Rattle.ndef_c.proofs.Places.{lies_after, lies_within}
use Rattle.ndef_c.proofs.Walking.{Here}

-- ---- lists

pub each_weaker : {T : Type 0} (P Q : ℕ → T → Type 0) → ((k : ℕ) (x : T) → P k x → Q k x) → (from : ℕ) (xs : List T) → EachAt P from xs → EachAt Q from xs
each_weaker P Q f from [] h = tt
each_weaker P Q f from (x ∷ xs) h = (f from x h.0, each_weaker P Q f (from + 1) xs h.1)

-- ---- one alternative carrier

power_of : (s : List ℕ) (v : AcValue) → StandsForAc s v → get_or s 0 0 % 4 ≡ power_code v.power
power_of [] v h = absurd h
power_of (octet ∷ []) v h = absurd h
power_of (octet ∷ n ∷ s) v h = h.0

-- its references are as many as it says
count_of : (s : List ℕ) (v : AcValue) → IsAlternative s → StandsForAc s v → length v.auxiliary + 1 ≡ references_of s
count_of s v h st = let n = names_count _ _ _ _ ((ac_at s (get_or s 1 0) h refl).stand v st) in omega (arith, n)

pub reference_item : (payload : List ℕ) (index : ℕ) (ac : Item) (v : AcValue) (c : Carrier) → c.index ≡ index → c.payload.now ≡ ac.payload → IsCarrierAt payload index ac c.at → StandsForAc ac.payload v
    → (number : ℕ) (out : NdefReferenceItem) → IsReferenceOf c v number out → IsReferenceItem payload index ac v number out
reference_item payload index ac v c i e at s number out r =
    let o = r.of_part in
    record {
      carrier = o.carrier ∙ i;
      number_is = o.number_is;
      carrier_there = subst (IsCarrierAt payload index ac) (sym o.carrier_at) at;
      carrier_length = o.carrier_length ∙ ap length e;
      power = o.power ∙ ap (λ b. get_or b 0 0 % 4) e ∙ power_of ac.payload v s;
      part = r.part;
      is = subst (λ b. IsReferencePart b v number r.part) e r.is;
      at = o.at ∙ ap (λ k. k + r.part.at) (sym o.carrier_at);
      length_is = o.length_is;
    }

-- the references that were written are all of it
pub of_carrier : (payload : List ℕ) (index : ℕ) (ac : Item) (v : AcValue) (c : Carrier) → c.index ≡ index → c.payload.now ≡ ac.payload → IsCarrierAt payload index ac c.at → StandsForAc ac.payload v
    → (own : List NdefReferenceItem) → EachAt (IsReferenceOf c v) 0 own → length own ≡ references_of ac.payload → AreOfCarrier payload index ac own
of_carrier payload index ac v c i e at s own each n =
    let m = count_of ac.payload v at.in_set s in
    record {
      alternative = v;
      stands = s;
      each = each_weaker (IsReferenceOf c v) (IsReferenceItem payload index ac v) (reference_item payload index ac v c i e at s) 0 own each;
      count = omega (arith, n, m);
    }

-- ---- one more of them

pub are_more : (payload : List ℕ) (index : ℕ) (acs : List Item) (ac : Item) (items own : List NdefReferenceItem) → AreReferenceItems payload index acs items → AreOfCarrier payload (index + length acs) ac own
    → AreReferenceItems payload index (acs ++ ac ∷ []) (items ++ own)
are_more payload index [] ac items own h o =
    let place : index + 0 ≡ index = omega arith in
    (own, [], ap (λ xs. xs ++ own) h ∙ sym (append-nil own), subst (λ k. AreOfCarrier payload k ac own) place o, refl)
are_more payload index (a ∷ acs) ac items own h o =
    let place : index + length (a ∷ acs) ≡ index + 1 + length acs = omega arith in (
      h.0,
      h.1 ++ own,
      ap (λ xs. xs ++ own) h.2 ∙ append_assoc h.0 h.1 own,
      h.3,
      are_more payload (index + 1) acs ac h.1 own h.4 (subst (λ k. AreOfCarrier payload k ac own) place o),
    )

-- ---- the alternative carrier that a walk passes

pub alternative_here : (profile : Profile) (payload : List ℕ) (records done : List Item) (i : Item) → HasCarriers profile records payload → (more : List Item) × (records ≡ done ++ i ∷ more) → is_carrier i ≡ true → IsAlternative i.payload
alternative_here profile payload records done i c w k = is_alternative_at records (length (alternatives done)) i c.each (filter_at is_carrier records done i w k)

-- where it lies
pub record Passed (payload : List ℕ) (records done : List Item) (r : NdefRecord) (i : Item) : Type 0 where
  pub alternative : IsAlternative i.payload
  pub there : IsCarrierAt payload (length (alternatives done)) i (r.payload_at + 1)
  pub short : r.payload_at + 1 + length i.payload ≤ length payload

pub passed : (profile : Profile) (payload : List ℕ) (records done : List Item) {message : List ℕ} {w : Walk} {r : NdefRecord} {after : Walk} → message ≡ drop 1 payload → HasCarriers profile records payload → (h : Here message w r after)
    → (q : Reached records message done r h.there.run after) → is_carrier (run_record h.there.run) ≡ true → Passed payload records done r (run_record h.there.run)
passed profile payload records done {message} {w} {r} {after} m c h q k =
    let i = run_record h.there.run in
    let alternative = alternative_here profile payload records done i c q.within k in
    let e = q.one in
    let n = ap length e in
    let size = h.there.part.count_is ∙ n in
    let some = (ac_at i.payload (get_or i.payload 1 0) alternative refl).length_within in
    let at = lies_within _ _ _ _ h.there.part (omega (arith, some, n)) in
    let lies = lies_after payload message _ r.payload_at r.part_length m at h.there.part in
    let there : Lies payload (r.payload_at + 1) (length i.payload) i.payload = subst (Lies payload (r.payload_at + 1) (length i.payload)) e (subst (λ n. Lies payload (r.payload_at + 1) n h.there.run.initial.payload) size lies) in
    record {
      alternative = alternative;
      there = record { in_set = alternative; lies = there; place = r.payload_at; after = (done, refl, subst (λ b. StandsAt b done i r.payload_at) m q.stands); after_version = refl };
      short = there.within;
    }

-- its references are among all of them
pub count_within : (records done : List Item) (i : Item) → (more : List Item) × (records ≡ done ++ i ∷ more) → is_carrier i ≡ true
    → sum_by reference_count (alternatives done) + references_of i.payload ≤ sum_by reference_count (alternatives records)
count_within records done i w k =
    let all = ap (sum_by reference_count) (filter_with is_carrier records done i w k) ∙ sum_by-append reference_count (alternatives done) (i ∷ alternatives w.0) in
    let one = sum_by-cons reference_count i (alternatives w.0) in
    omega (arith, all, one)

-- ---- a loop that writes them

-- those of the alternative carriers so far
pub record Listed (payload message : List ℕ) (records : List Item) (w : Walk) (index count : ℕ) (old now : List NdefReferenceItem) : Type 0 where
  pub done : List Item
  pub ahead : Ahead records message w done
  pub reported : List NdefReferenceItem
  pub are : AreReferenceItems payload 0 (alternatives done) reported
  pub none : AllByRecursion HasNoRecord reported
  pub size : count ≡ length reported
  pub sum : count ≡ sum_by reference_count (alternatives done)
  pub carriers : index ≡ length (alternatives done)
  pub filled : now ≡ set_over reported old

-- ---- all of them

-- a request or a select has alternative carriers, none or more
pub nest_carriers : (table : Table) (profile : Profile) (payload : List ℕ) → table ≢ SmartPoster → IsNest table 65535 profile payload → (records : List Item) × HasCarriers profile records payload
nest_carriers SmartPoster profile payload t h = absurd (t refl)
nest_carriers Request profile payload t h =
    let n = request_nest profile payload h in
    (n.items, record { some = n.some; records = n.are.pieces; each = each_alternative (λ i. IsAlternative i.payload) n.items (members Request profile n.items t n.are.contents.members) })
nest_carriers Select profile payload t h =
    let n = select_nest profile payload h in
    (n.items, record { some = n.some; records = n.are.pieces; each = each_alternative (λ i. IsAlternative i.payload) n.items (members Select profile n.items t n.are.contents.members) })

-- one that comes after another
abbrev ComesAfter : NdefReferenceItem → NdefReferenceItem → Type 0
ComesAfter r s = (r.carrier < s.carrier) ⊎ ((r.carrier ≡ s.carrier) × (r.number < s.number))

own_after : (payload : List ℕ) (index : ℕ) (ac : Item) (v : AcValue) (r : NdefReferenceItem) (n m : ℕ) (own : List NdefReferenceItem) → r.carrier ≡ index → r.number ≡ n → n < m → EachAt (IsReferenceItem payload index ac v) m own
    → AllByRecursion (ComesAfter r) own
own_after payload index ac v r n m [] i e l h = tt
own_after payload index ac v r n m (s ∷ own) i e l h =
    let number = h.0.number_is in
    (inr (i ∙ sym h.0.carrier, omega (arith, e, number, l)), own_after payload index ac v r n (m + 1) own i e (omega (arith, l)) h.1)

more_after : (index : ℕ) (r : NdefReferenceItem) (more : List NdefReferenceItem) → r.carrier ≡ index → AllByRecursion (λ s. index + 1 ≤ s.carrier) more → AllByRecursion (ComesAfter r) more
more_after index r [] i h = tt
more_after index r (s ∷ more) i h = let l = h.0 in (inl (omega (arith, i, l)), more_after index r more i h.1)

own_placed : (payload : List ℕ) (index : ℕ) (ac : Item) (v : AcValue) (n : ℕ) (own more : List NdefReferenceItem) → EachAt (IsReferenceItem payload index ac v) n own → ArePlaced more → AllByRecursion (λ s. index + 1 ≤ s.carrier) more
    → ArePlaced (own ++ more)
own_placed payload index ac v n [] more h p l = p
own_placed payload index ac v n (r ∷ own) more h p l = (
  all_append (ComesAfter r) own more (own_after payload index ac v r n (n + 1) own h.0.carrier h.0.number_is (omega arith) h.1) (more_after index r more h.0.carrier l),
  own_placed payload index ac v (n + 1) own more h.1 p l,
)

own_from : (payload : List ℕ) (index : ℕ) (ac : Item) (v : AcValue) (n : ℕ) (own : List NdefReferenceItem) → EachAt (IsReferenceItem payload index ac v) n own → AllByRecursion (λ s. index ≤ s.carrier) own
own_from payload index ac v n [] h = tt
own_from payload index ac v n (r ∷ own) h = let e = h.0.carrier in (omega (arith, e), own_from payload index ac v (n + 1) own h.1)

from_less : (index : ℕ) (items : List NdefReferenceItem) → AllByRecursion (λ s. index + 1 ≤ s.carrier) items → AllByRecursion (λ s. index ≤ s.carrier) items
from_less index [] h = tt
from_less index (r ∷ items) h = let l = h.0 in (omega (arith, l), from_less index items h.1)

later_carriers : (payload : List ℕ) (index : ℕ) (acs : List Item) (items : List NdefReferenceItem) → AreReferenceItems payload index acs items → AllByRecursion (λ s. index ≤ s.carrier) items
later_carriers payload index [] items h = subst (AllByRecursion (λ s. index ≤ s.carrier)) (sym h) tt
later_carriers payload index (ac ∷ acs) items (own, more, e, o, rest) =
    subst (AllByRecursion (λ s. index ≤ s.carrier)) (sym e)
    (all_append (λ s. index ≤ s.carrier) own more (own_from payload index ac o.alternative 0 own o.each) (from_less index more (later_carriers payload (index + 1) acs more rest)))

-- they are placed by their carriers and numbers
pub are_placed : (payload : List ℕ) (index : ℕ) (acs : List Item) (items : List NdefReferenceItem) → AreReferenceItems payload index acs items → ArePlaced items
are_placed payload index [] items h = subst ArePlaced (sym h) tt
are_placed payload index (ac ∷ acs) items (own, more, e, o, rest) =
    subst ArePlaced (sym e) (own_placed payload index ac o.alternative 0 own more o.each (are_placed payload (index + 1) acs more rest) (later_carriers payload (index + 1) acs more rest))
