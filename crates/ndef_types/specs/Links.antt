-- The links of a message: the alternative carriers of its handover, and the records that they refer
-- to (NFC Forum, Connection Handover 1.2).
use Rattle.std.specs.Prelude.{◌≡◌, ◌≢◌, ◌^◌, ◌<◌, ℕ, Bool, true, false, List, [], ◌∷◌, length, map, filter, slice_get, Option, Some, None, ⊤, ◌⊎◌, Result, Ok, Err}
use Rattle.ndef_format.specs.Messages.{Item, run_record}
use Rattle.ndef_format.specs.Records.{Run}
use Rattle.ndef_format.specs.Handovers.{IsAlternative}
use Rattle.ndef_format.specs.declared.profile.Profile.{Profile}
use Rattle.ndef_value.specs.declared.limits.TheConstants.{MOST_RECORDS}
use Rattle.ndef_format.specs.Kinds.{kind_of}
use Rattle.ndef_format.specs.declared.kind.Kind.{Kind}
use Rattle.ndef_format.specs.declared.kind.Kind.TheVariants as kinds
use Rattle.ndef_format.specs.NestedReasons.{NestReason}
use Rattle.ndef_format.specs.Nested.{IsNest, table_of}
use Rattle.ndef_types.specs.Contents.{IsFirstOf, IsFirstAt, Lack, StandsForMessage}
use Rattle.ndef_types.specs.Decoding.{RefusesPayload}
use Rattle.ndef_types.specs.Values.{StandsForAc}
use Rattle.ndef_types.specs.declared.link.Link.{Link}
use Rattle.ndef_types.specs.declared.link.LinkError.{LinkError}
use Rattle.ndef_types.specs.declared.link.LinkError.TheVariants as errors

-- Connection Handover 1.2: the record is a handover request or select
abbrev pub IsHandoverRecord : Item → Type 0
IsHandoverRecord i = (kind_of i.tnf i.kind ≡ kinds.Request) ⊎ (kind_of i.tnf i.kind ≡ kinds.Select)

-- Connection Handover 1.2: a record of this kind is a handover request or select
abbrev pub is_handover : Kind → Bool
is_handover kinds.Request = true
is_handover kinds.Select = true
is_handover _ = false

-- NDEF 1.0, ID: the record has this id
abbrev pub HasId : List ℕ → Item → Type 0
HasId id i = i.id ≡ id

-- Connection Handover 1.2, carrier data reference: the index of the first record with the id; no
-- record has the empty id
abbrev pub IsIndexOf : List Item → List ℕ → Option ℕ → Type 0
IsIndexOf items id None = (id ≡ []) ⊎ Lack (HasId id) items
IsIndexOf items id (Some k) = (id ≢ []) × (i : Item) × IsFirstAt (HasId id) items k i

-- the kind is that of an alternative carrier
abbrev pub is_alternative : Kind → Bool
is_alternative kinds.Alternative = true
is_alternative _ = false

-- Connection Handover 1.2: the alternative carriers of a handover, in order
abbrev pub alternatives : List Item → List Item
alternatives = filter (λ i. is_alternative (kind_of i.tnf i.kind))

-- Connection Handover 1.2: the links are those of the alternative carriers, in order, each with the
-- index of the record that it refers to
abbrev pub AreLinks : List Item → List Item → List Link → Type 0
AreLinks outer [] [] = ⊤
AreLinks outer (i ∷ items) (l ∷ links) =
    StandsForAc i.payload l.ac × IsIndexOf outer l.ac.reference l.index
    × AreLinks outer items links
AreLinks outer _ _ = ⊥

-- Connection Handover 1.2: an alternative carrier is one piece with a payload of its own
abbrev pub HasWholeCarrier : Run → Type 0
HasWholeCarrier r = kind_of (run_record r).tnf (run_record r).kind ≡ kinds.Alternative
    → (r.later ≡ []) × IsAlternative (run_record r).payload

-- the records of a message, if there is one
abbrev pub records_of : Option (List Item) → List Item
records_of None = []
records_of (Some items) = items

-- Connection Handover 1.2: the links to records of the outer message in the payload of a handover,
-- a version octet and a message
abbrev pub StandsForLinks : Profile → List Item → List ℕ → List Link → Type 0
StandsForLinks profile outer [] links = ⊥
StandsForLinks profile outer (version ∷ bytes) links =
    (message : Option (List Item)) × StandsForMessage profile bytes message
    × AreLinks outer (alternatives (records_of message)) links

-- Connection Handover 1.2: the payload of a handover, a version octet and a message, has an
-- alternative carrier
abbrev pub HasCarriers : Profile → List ℕ → Type 0
HasCarriers profile [] = ⊥
HasCarriers profile (version ∷ bytes) =
    (message : Option (List Item)) × StandsForMessage profile bytes message
    × (alternatives (records_of message) ≢ [])

-- the links of the handover, if there is one, unless memory runs out; or its payload is refused
abbrev pub LinksOf : Profile → List Item → Option Item → Result (List Link) LinkError → Type 0
LinksOf profile outer None result = result ≡ Ok []
LinksOf profile outer (Some i) (Ok links) =
    IsNest (table_of (kind_of i.tnf i.kind)) MOST_RECORDS profile i.payload
    × StandsForLinks profile outer i.payload links
LinksOf profile outer (Some i) (Err (errors.Refused refusal)) =
    RefusesPayload (IsNest (table_of (kind_of i.tnf i.kind)) MOST_RECORDS profile)
    (NestReason (table_of (kind_of i.tnf i.kind)) MOST_RECORDS profile) i.payload refusal
LinksOf profile outer (Some i) (Err errors.NoMemory) = (length i.payload < 2 ^ 32)
    × IsNest (table_of (kind_of i.tnf i.kind)) MOST_RECORDS profile i.payload

-- Connection Handover 1.2: the links of a message are those of its first handover request or select
abbrev pub FindsLinks : Profile → List Item → Result (List Link) LinkError → Type 0
FindsLinks profile outer result = (i : Option Item) × IsFirstOf IsHandoverRecord outer i
    × LinksOf profile outer i result

-- Connection Handover 1.2: a message has at most one list of links
abbrev pub OneListOfLinks : Type 0
OneListOfLinks = (profile : Profile) (outer : List Item) (a b : List Link)
    → FindsLinks profile outer (Ok a) → FindsLinks profile outer (Ok b) → a ≡ b

-- Connection Handover 1.2: the first handover request or select of a message has an alternative
-- carrier
abbrev pub HasLinks : Profile → List Item → Type 0
HasLinks profile outer =
    (i : Item) × IsFirstOf IsHandoverRecord outer (Some i) × HasCarriers profile i.payload

-- NDEF 1.0, chunked payloads: the first handover request or select among the records of some runs
-- is chunked
pub record HandoverIsChunked (runs : List Run) : Type 0 where
  pub index : ℕ
  pub run : Run
  pub at : slice_get runs index ≡ Some run
  pub first : IsFirstAt IsHandoverRecord (map run_record runs) index (run_record run)
  pub chunked : run.later ≢ []
