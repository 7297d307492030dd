-- The payloads of handovers, and the messages that are their values.
use Rattle.std.proofs.Common.{◌≡◌, ◌≢◌, ℕ, ◌<◌, ◌≤◌, ◌⊎◌, List, [], ◌∷◌, length, drop, map, get_or, sym, ap, ◌∙◌, true, false, subst, inl, inr, Err, arith, refl, Option, Some, None}
use Rattle.std.specs.Prelude.{◌==◌, IfSome}
use Rattle.std.specs.List.{AllByRecursion}
use Rattle.ndef_format.specs.Messages.{Item, run_record}
use Rattle.ndef_format.specs.Records.{Run}
use Rattle.ndef_format.specs.declared.profile.Profile.{Profile}
use Rattle.ndef_format.specs.declared.profile.Profile.TheVariants.{Strict}
use Rattle.ndef_format.specs.declared.refusal.Refusal.{Refusal}
use Rattle.ndef_format.specs.Handovers.{IsAlternative}
use Rattle.ndef_format.specs.Kinds.{kind_of}
use Rattle.ndef_format.specs.Nested.{IsPayload, HasContents, IsNest, IsNestedBy, Nested, checked, kind_in, table_of}
use Rattle.ndef_format.specs.declared.kind.Kind.{Kind}
use Rattle.ndef_format.specs.declared.kind.Kind.TheVariants as kinds
use Rattle.ndef_format.specs.NestedReasons.{NestReason}
use Rattle.ndef_nest.specs.Nested.{HandoversAreStrict}
use Rattle.ndef_format.specs.declared.table.Table.{Table}
use Rattle.ndef_format.specs.declared.table.Table.TheVariants.{SmartPoster, Request, Select}
use Rattle.ndef_types.specs.Contents.{StandsForMessage}
use Rattle.ndef_types.specs.Decoding.{RefusesPayload}
use Rattle.ndef_types.specs.Links.{AreLinks, HasCarriers, LinksOf, StandsForLinks, alternatives, records_of}
use Rattle.ndef_types.specs.declared.link.Link.{Link}
use Rattle.ndef_types.specs.declared.link.LinkError.TheVariants as errors

-- ---- a version octet and a message

pub request_parts : (profile : Profile) (payload : List ℕ) → IsNest Request 65535 profile payload
    → (0 < length payload) × (0x10 ≤ get_or payload 0 0) × (get_or payload 0 0 < 0x20) × Nested Request 65535 profile (drop 1 payload)
request_parts profile [] h = absurd h
request_parts profile (v ∷ s) h = (omega arith, h.0.0, h.0.1, h.1)

pub handover_parts : (table : Table) (profile : Profile) (payload : List ℕ) → table ≢ SmartPoster → IsNest table 65535 profile payload
    → (0 < length payload) × (0x10 ≤ get_or payload 0 0) × (get_or payload 0 0 < 0x20) × ((drop 1 payload ≡ []) ⊎ Nested table 65535 profile (drop 1 payload))
handover_parts SmartPoster profile payload f h = absurd (f refl)
handover_parts Request profile payload f h = let p = request_parts profile payload h in (p.0, p.1, p.2, inr p.3)
handover_parts Select profile [] f h = absurd h
handover_parts Select profile (v ∷ s) f h = (omega arith, h.0.0, h.0.1, h.1)

pub nested_after : (table : Table) (profile : Profile) (payload bytes : List ℕ) → table ≢ SmartPoster → IsNest table 65535 profile payload → bytes ≡ drop 1 payload → (length bytes == 0) ≡ false
    → Nested table 65535 profile (drop 1 payload)
nested_after table profile payload bytes f h e some =
    elim (handover_parts table profile payload f h).3 [
      | inl none ↦ let t : true ≡ false = sym (ap (λ s. length s == 0) (e ∙ none)) ∙ some in absurd (cc)
      | inr n ↦ n
    ]

pub selected_strict : HandoversAreStrict → (profile : Profile) (message : Option (List Item)) → IfSome message (HasContents Select profile) → IfSome message (HasContents Select Strict)
selected_strict strict profile None h = tt
selected_strict strict profile (Some items) h = strict Select profile items (λ e. cc) h

-- ---- links

is_alternative : (table : Table) (profile : Profile) (kind : Kind) (payload : List ℕ) → table ≢ SmartPoster → IsPayload (checked table kind) profile payload → kind ≡ kinds.Alternative → IsAlternative payload
is_alternative SmartPoster profile kind payload f h e = absurd (f refl)
is_alternative Request profile kind payload f h e = subst (λ k. IsPayload (checked Request k) profile payload) e h
is_alternative Select profile kind payload f h e = subst (λ k. IsPayload (checked Select k) profile payload) e h

are_alternatives : (table : Table) (profile : Profile) (items : List Item) → table ≢ SmartPoster → AllByRecursion (λ i. IsPayload (kind_in table i.tnf i.kind) profile i.payload) items
    → AllByRecursion (λ i. kind_of i.tnf i.kind ≡ kinds.Alternative → IsAlternative i.payload) items
are_alternatives table profile [] f h = tt
are_alternatives table profile (i ∷ items) f h = (is_alternative table profile (kind_of i.tnf i.kind) i.payload f h.0, are_alternatives table profile items f h.1)

pub has_alternatives : (table : Table) (profile : Profile) (items : List Item) → table ≢ SmartPoster → HasContents table profile items
    → AllByRecursion (λ i. kind_of i.tnf i.kind ≡ kinds.Alternative → IsAlternative i.payload) items
has_alternatives table profile items f h = are_alternatives table profile items f h.members

-- the message of a handover, which is viewed
pub record IsViewed (profile : Profile) (payload : List ℕ) (runs : List Run) : Type 0 where
  pub some : 0 < length payload
  pub single : AllByRecursion (λ r. r.later ≡ []) runs
  pub message : StandsForMessage profile (drop 1 payload) (Some (map run_record runs))
  pub carriers : AllByRecursion (λ i. kind_of i.tnf i.kind ≡ kinds.Alternative → IsAlternative i.payload) (map run_record runs)

pub viewed : (table : Table) (profile : Profile) (payload bytes : List ℕ) (runs : List Run) → table ≢ SmartPoster → IsNest table 65535 profile payload → bytes ≡ drop 1 payload → (length bytes == 0) ≡ false
    → ((table : Table) (rs : List Run) (items : List Item) → IsNestedBy table 65535 profile rs items bytes → (runs ≡ rs) × (map run_record runs ≡ items)) → IsViewed profile payload runs
viewed table profile payload bytes runs f h e some view =
    let n = nested_after table profile payload bytes f h e some in
    let v = view table n.0 n.1 (subst (IsNestedBy table 65535 profile n.0 n.1) (sym e) n.2) in
    record {
      some = (handover_parts table profile payload f h).0;
      single = subst (AllByRecursion (λ r. r.later ≡ [])) (sym v.0) n.2.single;
      message = subst (λ items. StandsForMessage profile (drop 1 payload) (Some items)) (sym v.1) (n.0, n.2.spelling);
      carriers = subst (AllByRecursion (λ i. kind_of i.tnf i.kind ≡ kinds.Alternative → IsAlternative i.payload)) (sym v.1) (has_alternatives table profile n.1 f n.2.contents);
    }

pub links_stand : (profile : Profile) (outer : List Item) (payload : List ℕ) (message : Option (List Item)) (links : List Link) → 0 < length payload → StandsForMessage profile (drop 1 payload) message
    → AreLinks outer (alternatives (records_of message)) links → StandsForLinks profile outer payload links
links_stand profile outer [] message links l m h = absurd (omega arith)
links_stand profile outer (version ∷ bytes) message links l m h = (message, m, h)

pub carriers_stand : (profile : Profile) (payload : List ℕ) (message : Option (List Item)) → 0 < length payload → StandsForMessage profile (drop 1 payload) message
    → alternatives (records_of message) ≢ [] → HasCarriers profile payload
carriers_stand profile [] message l m h = absurd (omega arith)
carriers_stand profile (version ∷ bytes) message l m h = (message, m, h)

pub refused_links : (profile : Profile) (outer : List Item) (i : Item) (kind : Kind) (payload : List ℕ) (refusal : Refusal) → kind ≡ kind_of i.tnf i.kind → payload ≡ i.payload
    → RefusesPayload (IsNest (table_of kind) 65535 profile) (NestReason (table_of kind) 65535 profile) payload refusal → LinksOf profile outer (Some i) (Err (errors.Refused refusal))
refused_links profile outer i kind payload refusal k p h =
    subst (λ x. RefusesPayload (IsNest (table_of x) 65535 profile) (NestReason (table_of x) 65535 profile) i.payload refusal) k
    (subst (λ s. RefusesPayload (IsNest (table_of kind) 65535 profile) (NestReason (table_of kind) 65535 profile) s refusal) p h)
