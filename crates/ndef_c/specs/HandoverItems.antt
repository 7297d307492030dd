-- A handover and all its references, given in one call.
use Rattle.std.specs.Prelude.{◌≡◌, ◌==◌, ℕ, ◌+◌, ◌%◌, ◌<◌, List, [], ◌∷◌, ◌++◌, length, map, take, drop, slice_index, sum_by, Option, Some, None, ◌⊎◌, if◌then◌else◌}
use Rattle.std.specs.List.{AllByRecursion}
use Rattle.ndef_format.specs.Handovers.{IsAlternative}
use Rattle.ndef_format.specs.Messages.{Item}
use Rattle.ndef_format.specs.Records.{Run}
use Rattle.ndef_format.specs.declared.kind.Kind.TheVariants as kinds
use Rattle.ndef_format.specs.declared.profile.Profile.{Profile}
use Rattle.ndef_format.specs.declared.table.Table.{Table}
use Rattle.ndef_format.specs.declared.table.Table.TheVariants as tables
use Rattle.ndef_types.specs.Links.{alternatives}
use Rattle.ndef_types.specs.Values.{AcValue, StandsForAc, power_code}
use Rattle.ndef_c.specs.Alternatives.{IsReferenceAt, IsReferencePart, references}
use Rattle.ndef_c.specs.Arrays.{EachAt, GivesMany}
use Rattle.ndef_c.specs.Handovers.{HasMessage, IsRequestAt, IsSelectAt}
use Rattle.ndef_c.specs.Kinds.{kind_number}
use Rattle.ndef_c.specs.Links.{BeginsWithRuns, FindsRecord, HasRuns, IsLinkAt, TellsPlace}
use Rattle.ndef_c.specs.Nested.{LiesAfter}
use Rattle.ndef_c.specs.Walks.{Lies}
use Rattle.ndef_c.specs.declared.handover_items.NdefHandoverParts.{NdefHandoverParts}
use Rattle.ndef_c.specs.declared.link.NdefLink.{NdefLink}
use Rattle.ndef_c.specs.declared.message.Place.{Place}
use Rattle.ndef_c.specs.declared.part.NdefPart.{NdefPart}
use Rattle.ndef_c.specs.declared.reference_items.Carrier.{Carrier}
use Rattle.ndef_c.specs.declared.reference_items.NdefReferenceItem.{NdefReferenceItem}
use Rattle.ndef_c.specs.declared.request.NdefRequest.{NdefRequest}
use Rattle.ndef_c.specs.declared.select.NdefSelect.{NdefSelect}

-- ---- the references of an alternative carrier

-- Connection Handover 1.2, Auxiliary Data Reference Count: the references in the payload of an
-- alternative carrier: the first, and as many others as the octet after it says
abbrev pub references_of : List ℕ → ℕ
references_of payload = 1 + slice_index payload (2 + slice_index payload 1)

abbrev pub reference_count : Item → ℕ
reference_count ac = references_of ac.payload

-- no record is given
pub record HasNoRecord (out : NdefReferenceItem) : Type 0 where
  pub has : out.has_record ≡ 0
  pub index : out.record_index ≡ 0
  pub at : out.record_at ≡ 0

-- the reference with the number is this part of the payload of the carrier
pub record IsOfPart (c : Carrier) (number : ℕ) (part : NdefPart) (out : NdefReferenceItem) : Type 0 where
  pub carrier : out.carrier ≡ c.index
  pub number_is : out.number ≡ number
  pub carrier_at : out.carrier_at ≡ c.at
  pub carrier_length : out.carrier_length ≡ length c.payload.now
  pub power : out.power ≡ slice_index c.payload.now 0 % 4
  pub at : out.at ≡ c.at + part.at
  pub length_is : out.length ≡ part.length
  pub none : HasNoRecord out

-- Connection Handover 1.2, Alternative Carrier record: the reference of the carrier with the number
pub record IsReferenceOf (c : Carrier) (v : AcValue) (number : ℕ) (out : NdefReferenceItem) : Type 0 where
  pub part : NdefPart
  pub is : IsReferencePart c.payload.now v number part
  pub of_part : IsOfPart c number part out

-- ---- the references of a handover

-- Connection Handover 1.2, Handover Request and Select records: after the version octet these
-- records, each alternative carrier one by its payload
pub record HasCarriers (profile : Profile) (items : List Item) (payload : List ℕ) : Type 0 where
  pub some : 0 < length payload
  pub records : HasMessage profile items payload
  pub each : AllByRecursion (λ i. IsAlternative i.payload) (alternatives items)

-- Connection Handover 1.2, Alternative Carrier record: the one with the index lies there
pub record IsCarrierAt (payload : List ℕ) (index : ℕ) (ac : Item) (at : ℕ) : Type 0 where
  pub in_set : IsAlternative ac.payload
  pub lies : Lies payload at (length ac.payload) ac.payload
  pub place : ℕ
  pub after : LiesAfter (λ before. length (alternatives before) ≡ index) (drop 1 payload) ac place
  pub after_version : at ≡ place + 1

-- Connection Handover 1.2, Alternative Carrier record: its reference with the number, and where both lie
pub record IsReferenceItem (payload : List ℕ) (index : ℕ) (ac : Item) (v : AcValue) (number : ℕ)
    (out : NdefReferenceItem) : Type 0 where
  pub carrier : out.carrier ≡ index
  pub number_is : out.number ≡ number
  pub carrier_there : IsCarrierAt payload index ac out.carrier_at
  pub carrier_length : out.carrier_length ≡ length ac.payload
  pub power : out.power ≡ power_code v.power
  pub part : NdefPart
  pub is : IsReferencePart ac.payload v number part
  pub at : out.at ≡ out.carrier_at + part.at
  pub length_is : out.length ≡ part.length

-- .. all its references, the carrier data reference first
pub record AreOfCarrier (payload : List ℕ) (index : ℕ) (ac : Item) (own : List NdefReferenceItem) : Type 0 where
  pub alternative : AcValue
  pub stands : StandsForAc ac.payload alternative
  pub each : EachAt (IsReferenceItem payload index ac alternative) 0 own
  pub count : length own ≡ length (references alternative)

-- .. those of all alternative carriers, in their order
abbrev pub AreReferenceItems : List ℕ → (index : ℕ) → List Item → List NdefReferenceItem → Type 0
AreReferenceItems payload index [] items = items ≡ []
AreReferenceItems payload index (ac ∷ acs) items = (own : List NdefReferenceItem) × (more : List NdefReferenceItem)
    × (items ≡ own ++ more) × AreOfCarrier payload index ac own × AreReferenceItems payload (index + 1) acs more

-- ---- the records to which they refer

-- but for the record
abbrev pub without_record : NdefReferenceItem → NdefReferenceItem
without_record r = record {
  carrier = r.carrier;
  number = r.number;
  carrier_at = r.carrier_at;
  carrier_length = r.carrier_length;
  at = r.at;
  length = r.length;
  record_index = 0;
  record_at = 0;
  power = r.power;
  has_record = 0;
}

-- the reference, where it lies in the payload
abbrev pub name_in : List ℕ → NdefReferenceItem → List ℕ
name_in payload r = take r.length (drop r.at payload)

-- Connection Handover 1.2, carrier data reference: the first of the records with that id, if there is one
abbrev pub RefersAmong : List ℕ → List ℕ → List Run → NdefReferenceItem → Type 0
RefersAmong bytes payload runs r = (p : Option Place) × FindsRecord bytes runs (name_in payload r) p
    × TellsPlace p r.has_record r.record_index r.record_at

-- .. of the message with which the bytes begin
abbrev pub Refers : List ℕ → List ℕ → NdefReferenceItem → Type 0
Refers bytes payload r = (runs : List Run) → BeginsWithRuns runs bytes → RefersAmong bytes payload runs r

-- NDEF 1.0, messages: there are no bytes, or they begin with the records of a message
abbrev pub MayRefer : List ℕ → Type 0
MayRefer bytes = (bytes ≡ []) ⊎ HasRuns bytes

-- no message, and no record; or the record of the message
abbrev pub RefersTo : List ℕ → List ℕ → NdefReferenceItem → Type 0
RefersTo bytes payload r = ((bytes ≡ []) × HasNoRecord r) ⊎ (HasRuns bytes × Refers bytes payload r)

-- ---- the call

-- Connection Handover 1.2: the handover whose kind has the number
abbrev pub handover_table : ℕ → Option Table
handover_table kind =
    if kind == kind_number kinds.Request then Some tables.Request
    else (if kind == kind_number kinds.Select then Some tables.Select else None)

-- what ndef_request gives of it
abbrev pub request_part : NdefHandoverParts → NdefRequest
request_part out = record { carriers = out.carriers; major = out.major; minor = out.minor; collision = out.collision }

-- what ndef_select gives of it
abbrev pub select_part : NdefHandoverParts → NdefSelect
select_part out = record {
  carriers = out.carriers;
  detail_at = out.detail_at;
  detail_length = out.detail_length;
  major = out.major;
  minor = out.minor;
  has_error = out.has_error;
  error = out.error;
}

-- Connection Handover 1.2, Handover Request and Select records: the version, the random number of a request or the
-- first error of a select, and the alternative carriers
abbrev pub TellsHandover : Table → Profile → List ℕ → NdefHandoverParts → Type 0
TellsHandover tables.Request profile payload out = IsRequestAt profile payload (request_part out)
    × (out.has_error ≡ 0) × (out.error ≡ 0) × (out.detail_at ≡ 0) × (out.detail_length ≡ 0)
TellsHandover tables.Select profile payload out = IsSelectAt profile payload (select_part out) × (out.collision ≡ 0)
TellsHandover tables.SmartPoster profile payload out = ⊥

-- Connection Handover 1.2, Alternative Carrier record: all references and the records to which they refer are given;
-- where the array is too small, only the number of the references
pub record GivesReferences (profile : Profile) (payload bytes : List ℕ) (before after : List NdefReferenceItem)
    (count status : ℕ) : Type 0 where
  pub records : List Item
  pub carriers : HasCarriers profile records payload
  pub gives : GivesMany
      (λ reported. AreReferenceItems payload 0 (alternatives records) (map without_record reported)
      × AllByRecursion (RefersTo bytes payload) reported)
      (sum_by reference_count (alternatives records)) before after count status

-- ---- laws

-- A reference lies in the payload of its alternative carrier where ndef_reference and ndef_references give it.
abbrev pub ReferencesAreItems : Type 0
ReferencesAreItems =
    (payload : List ℕ) (index : ℕ) (ac : Item) (v : AcValue) (number : ℕ) (out : NdefReferenceItem) (part : NdefPart)
    → IsReferenceItem payload index ac v number out → StandsForAc ac.payload v → IsReferenceAt ac.payload number part
    → (out.at ≡ out.carrier_at + part.at) × (out.length ≡ part.length)

-- The link at the place of an alternative carrier refers to the record to which its carrier data reference refers.
abbrev pub LinksAreItems : Type 0
LinksAreItems =
    (bytes payload : List ℕ) (index : ℕ) (ac : Item) (v : AcValue) (out : NdefReferenceItem) (k : ℕ) (link : NdefLink)
    → IsReferenceItem payload index ac v 0 out → StandsForAc ac.payload v → Refers bytes payload out
    → IsLinkAt bytes payload k link → link.carrier_at ≡ out.carrier_at → link.carrier_length ≡ out.carrier_length
    → (link.has_record ≡ out.has_record) × (link.record_index ≡ out.record_index)
