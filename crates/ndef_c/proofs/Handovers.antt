-- The records of handovers.
use Rattle.std.proofs.Common.{◌≡◌, ◌≢◌, ℕ, zero, suc, ◌+◌, ◌-◌, ◌<◌, ◌∷◌, [], drop, get_or, refl, sym, ◌∙◌, ap, subst, arith, Bool, true, false, true≢false, List, length, Some, inl, inr}
use Rattle.std.specs.Int.{w16, from_be_bytes}
use Rattle.std.specs.List.{AllByRecursion}
use Rattle.std.specs.Prelude.{slice_get, if◌then◌else◌}
use Rattle.ndef_format.specs.Messages.{Item}
use Rattle.ndef_format.specs.declared.profile.Profile.{Profile}
use Rattle.ndef_format.specs.declared.profile.Profile.TheVariants.{Standard}
use Rattle.ndef_format.specs.Handovers.{IsAlternative, IsError}
use Rattle.ndef_format.specs.Kinds.{kind_of}
use Rattle.ndef_format.specs.Nested.{IsPayload, IsComplete, IsNest, Nested, checked, kind_in}
use Rattle.ndef_format.specs.declared.kind.Kind.{Kind}
use Rattle.ndef_format.specs.declared.kind.Kind.TheVariants as kinds
use Rattle.ndef_format.specs.declared.table.Table.{Table}
use Rattle.ndef_format.specs.declared.table.Table.TheVariants.{SmartPoster, Request, Select}
use Rattle.ndef_types.specs.Contents.{IsFirstOf, IsFirstAt, IsOfKind, Lack}
use Rattle.ndef_types.specs.ContentsLaws.{has_at}
use Rattle.ndef_types.specs.Handovers.{IsCollisionOf}
use Rattle.ndef_types.specs.Links.{alternatives, is_alternative}
use Rattle.ndef_types.specs.Values.{ErrorValue, StandsForError}
use Rattle.ndef_c.specs.Handovers.{AreHandoverContents, HasMessage, IsHandoverPayload}
use Rattle.ndef_c.specs.Walks.{Lies}
use Rattle.ndef_c.proofs.Places.{lies_tail}

-- ---- the alternative carriers among some records

abbrev pub is_carrier : Item → Bool
is_carrier i = is_alternative (kind_of i.tnf i.kind)

keep : (b : Bool) (P : Item → Type 0) (i : Item) (rest : List Item) → (b ≡ true → P i) → AllByRecursion P rest → AllByRecursion P (if b then i ∷ rest else rest)
keep true P i rest h r = (h refl, r)
keep false P i rest h r = r

pub each_alternative : (P : Item → Type 0) (items : List Item) → AllByRecursion (λ i. is_carrier i ≡ true → P i) items → AllByRecursion P (alternatives items)
each_alternative P [] h = tt
each_alternative P (i ∷ items) h = keep (is_carrier i) P i (alternatives items) h.0 (each_alternative P items h.1)

-- ---- the records of a handover

alternative_kind : (kind : Kind) → is_alternative kind ≡ true → kind ≡ kinds.Alternative
alternative_kind kinds.Alternative e = refl
alternative_kind _ e = absurd (true≢false (sym e))

alternative_there : (table : Table) (profile : Profile) (payload : List ℕ) → table ≢ SmartPoster → IsPayload (checked table kinds.Alternative) profile payload → IsAlternative payload
alternative_there SmartPoster profile payload t h = absurd (t refl)
alternative_there Request profile payload t h = h
alternative_there Select profile payload t h = h

pub members : (table : Table) (profile : Profile) (items : List Item) → table ≢ SmartPoster → AllByRecursion (λ i. IsPayload (kind_in table i.tnf i.kind) profile i.payload) items
    → AllByRecursion (λ i. is_carrier i ≡ true → IsAlternative i.payload) items
members table profile [] t h = tt
members table profile (i ∷ items) t h = (
  λ e. alternative_there table profile i.payload t (subst (λ k. IsPayload (checked table k) profile i.payload) (alternative_kind (kind_of i.tnf i.kind) e) h.0),
  members table profile items t h.1,
)

-- the records of a payload that holds a message after a version octet
pub record Nest (table : Table) (profile : Profile) (payload : List ℕ) : Type 0 where
  pub some : 0 < length payload
  pub items : List Item
  pub are : AreHandoverContents table profile items (drop 1 payload)

nest_by : (table : Table) (profile : Profile) (version : ℕ) (s : List ℕ) → Nested table 65535 profile s → Nest table profile (version ∷ s)
nest_by table profile version s n = record {
  some = omega arith;
  items = n.1;
  are = record { pieces = inr (record { runs = n.0; spelling = n.2.spelling; single = n.2.single }); contents = n.2.contents };
}

pub request_nest : (profile : Profile) (payload : List ℕ) → IsNest Request 65535 profile payload → Nest Request profile payload
request_nest profile [] h = absurd h
request_nest profile (version ∷ s) h = nest_by Request profile version s h.1

pub select_nest : (profile : Profile) (payload : List ℕ) → IsNest Select 65535 profile payload → Nest Select profile payload
select_nest profile [] h = absurd h
select_nest profile (version ∷ s) (v, inl none) =
    record { some = omega arith; items = []; are = record { pieces = inl (refl, none); contents = record { members = tt; complete = tt } } }
select_nest profile (version ∷ s) (v, inr n) = nest_by Select profile version s n

-- the records of a request or a select, each alternative carrier one by its payload
pub record Handover (payload : List ℕ) : Type 0 where
  pub some : 0 < length payload
  pub items : List Item
  pub records : HasMessage Standard items payload
  pub each : AllByRecursion (λ i. IsAlternative i.payload) (alternatives items)

handover_by : (table : Table) (payload : List ℕ) → table ≢ SmartPoster → Nest table Standard payload → Handover payload
handover_by table payload t n =
    record { some = n.some; items = n.items; records = n.are.pieces; each = each_alternative _ n.items (members table Standard n.items t n.are.contents.members) }

pub handover_of : (payload : List ℕ) → IsHandoverPayload payload → Handover payload
handover_of payload (inl h) = handover_by Request payload (λ e. cc) (request_nest Standard payload h)
handover_of payload (inr h) = handover_by Select payload (λ e. cc) (select_nest Standard payload h)

pub is_alternative_at : (items : List Item) (k : ℕ) (i : Item) → AllByRecursion (λ i. IsAlternative i.payload) (alternatives items) → slice_get (alternatives items) k ≡ Some i → IsAlternative i.payload
is_alternative_at items k i h e = has_at (λ i. IsAlternative i.payload) (alternatives items) k i h e

-- ---- the collision resolution of a request, and the error of a select

-- the first record of a kind has a payload of it
pub first_has : (table : Table) (profile : Profile) (items : List Item) (message : List ℕ) (kind : Kind) (i : Item) → AreHandoverContents table profile items message → IsFirstOf (IsOfKind table kind) items (Some i)
    → IsPayload kind profile i.payload
first_has table profile items message kind i h f =
    subst (λ k. IsPayload k profile i.payload) f.1.has (has_at (λ j. IsPayload (kind_in table j.tnf j.kind) profile j.payload) items f.0 i h.contents.members f.1.at)

same_first : (j i : Item) (items : List Item) (k : ℕ) → IsOfKind Request kinds.Collision j → IsFirstAt (IsOfKind Request kinds.Collision) (j ∷ items) k i → j ≡ i
same_first j i items zero h f = let e = f.at in cc
same_first j i items (suc k) h f = absurd (f.before.0 h)

-- the collision resolution of a request is its first record
pub collision_first : (items : List Item) (i : Item) (number : ℕ) → IsComplete Request items → IsFirstOf (IsOfKind Request kinds.Collision) items (Some i) → number ≡ from_be_bytes w16 i.payload → IsCollisionOf items number
collision_first [] i number h f e = absurd h
collision_first (j ∷ items) i number h f e = e ∙ ap (λ x. from_be_bytes w16 x.payload) (sym (same_first j i items f.0 h f.1))

-- there is one
pub some_collision : (items : List Item) → IsComplete Request items → Lack (IsOfKind Request kinds.Collision) items → ⊥
some_collision [] h l = h
some_collision (j ∷ items) h l = l.0 h

-- an error has a reason
pub error_some : (s : List ℕ) → IsError s → 0 < length s
error_some [] h = absurd h
error_some (x ∷ s) h = omega arith

-- its data lies after its reason
pub error_reported : (payload s : List ℕ) (at : ℕ) → IsError s → Lies payload (at + 1) (length s) s
    → (v : ErrorValue) × StandsForError s v × (get_or s 0 0 ≡ v.reason) × Lies payload (at + 2) (length s - 1) v.detail
error_reported payload [] at h l = absurd h
error_reported payload (x ∷ s) at h l =
    let t = lies_tail payload s (at + 1) (length (x ∷ s)) x l in
    let place : at + 1 + 1 ≡ at + 2 = omega arith in
    let count : length s ≡ length (x ∷ s) - 1 = omega arith in
    (record { reason = x; detail = s }, refl, refl, subst (λ n. Lies payload (at + 2) n s) count (subst (λ k. Lies payload k (length s) s) place t))
