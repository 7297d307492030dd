-- The results for the payloads of handovers.
use Rattle.std.specs.Prelude.{◌≡◌, ℕ, ◌+◌, ◌*◌, ◌^◌, ◌<◌, ◌⊎◌, List, drop, length, slice_index, Option, Some, None}
use Rattle.ndef_format.specs.Messages.{Item}
use Rattle.ndef_format.specs.declared.profile.Profile.{Profile}
use Rattle.ndef_format.specs.declared.profile.Profile.TheVariants.{Standard}
use Rattle.ndef_value.specs.declared.limits.TheConstants.{MOST_RECORDS}
use Rattle.ndef_format.specs.declared.kind.Kind.TheVariants as kinds
use Rattle.ndef_format.specs.Nested.{IsNest, HasContents}
use Rattle.ndef_format.specs.declared.table.Table.{Table}
use Rattle.ndef_format.specs.declared.table.Table.TheVariants.{Request, Select}
use Rattle.ndef_types.specs.Contents.{IsFirstOf, IsOfKind, Lack}
use Rattle.ndef_types.specs.Handovers.{IsCollisionOf}
use Rattle.ndef_types.specs.Links.{alternatives}
use Rattle.ndef_types.specs.Values.{ErrorValue, StandsForError}
use Rattle.ndef_c.specs.Nested.{MayBeInPieces, LiesAfter}
use Rattle.ndef_c.specs.Walks.{Lies}
use Rattle.ndef_c.specs.declared.request.NdefRequest.{NdefRequest}
use Rattle.ndef_c.specs.declared.select.NdefSelect.{NdefSelect}

-- Connection Handover 1.2, Handover Request and Select records: the payload is that of a request or
-- of a select
abbrev pub IsHandoverPayload : List ℕ → Type 0
IsHandoverPayload payload =
    IsNest Request MOST_RECORDS Standard payload ⊎ IsNest Select MOST_RECORDS Standard payload

-- Connection Handover 1.2, Handover Request and Select records: after the version octet these
-- records, a select may have none
abbrev pub HasMessage : Profile → List Item → List ℕ → Type 0
HasMessage profile items payload = MayBeInPieces profile items (drop 1 payload)

-- Connection Handover 1.2, Handover Request and Select records: the message is these records, each
-- with a payload of its kind, and those are there that must be
pub record AreHandoverContents (table : Table) (profile : Profile) (items : List Item) (message : List ℕ) : Type 0 where
  pub pieces : MayBeInPieces profile items message
  pub contents : HasContents table profile items

-- Connection Handover 1.2, version octet: the major version in the high four bits, the minor one in
-- the others
pub record TellsVersion (payload : List ℕ) (major minor : ℕ) : Type 0 where
  pub octet : slice_index payload 0 ≡ 16 * major + minor
  pub four_bits : minor < 16

-- Connection Handover 1.2, Handover Request record: the payload is that of a request: its version,
-- its random number, and its alternative carriers
pub record IsRequestAt (profile : Profile) (payload : List ℕ) (out : NdefRequest) : Type 0 where
  pub in_set : IsNest Request MOST_RECORDS profile payload
  pub short : length payload < 2 ^ 32
  pub version : TellsVersion payload out.major out.minor
  pub items : List Item
  pub records : HasMessage profile items payload
  pub collision : IsCollisionOf items out.collision
  pub carriers : out.carriers ≡ length (alternatives items)

-- Connection Handover 1.2, Error record: its reason, and where its data lies, after the version
-- octet, the records in front of it and its reason; or 0s for none
abbrev pub TellsError : List ℕ → Option Item → (has reason at count : ℕ) → Type 0
TellsError payload None has reason at count = (has ≡ 0) × (reason ≡ 0) × (at ≡ 0) × (count ≡ 0)
TellsError payload (Some i) has reason at count =
    (has ≡ 1) × (v : ErrorValue) × StandsForError i.payload v × (reason ≡ v.reason)
    × Lies payload at count v.detail
    × (place : ℕ) × LiesAfter (Lack (IsOfKind Select kinds.Error)) (drop 1 payload) i place
    × (at ≡ place + 2)

-- Connection Handover 1.2, Handover Select record: the payload is that of a select: its version,
-- its first error, and its alternative carriers
pub record IsSelectAt (profile : Profile) (payload : List ℕ) (out : NdefSelect) : Type 0 where
  pub in_set : IsNest Select MOST_RECORDS profile payload
  pub short : length payload < 2 ^ 32
  pub version : TellsVersion payload out.major out.minor
  pub items : List Item
  pub records : HasMessage profile items payload
  pub error : Option Item
  pub is_error : IsFirstOf (IsOfKind Select kinds.Error) items error
  pub tells : TellsError payload error out.has_error out.error out.detail_at out.detail_length
  pub carriers : out.carriers ≡ length (alternatives items)
