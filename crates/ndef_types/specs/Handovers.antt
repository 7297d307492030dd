-- Handover requests and selects (NFC Forum, Connection Handover 1.2).
use Rattle.std.specs.Prelude.{◌≡◌, ◌+◌, ◌<◌, ℕ, List, [], ◌∷◌, Option, Some, None, IfSome, Result, Ok, Err}
use Rattle.std.specs.Int.{w16, from_be_bytes}
use Rattle.ndef_format.specs.Messages.{Item}
use Rattle.ndef_format.specs.Canonical.{AreItems, canonical}
use Rattle.ndef_format.specs.declared.profile.Profile.{Profile}
use Rattle.ndef_format.specs.declared.profile.Profile.TheVariants.{Strict}
use Rattle.ndef_format.specs.Nested.{HasContents}
use Rattle.ndef_format.specs.declared.table.Table.TheVariants as tables
use Rattle.ndef_types.specs.Contents.{IsFirstWrong, StandsForMessage}
use Rattle.ndef_types.specs.declared.not_handover.NotHandover.{NotHandover}

-- Connection Handover 1.2, version octet: the major version 1 and a minor version of four bits
abbrev pub version_octet : ℕ → ℕ
version_octet minor = 0x10 + minor

-- ---- requests

-- Connection Handover 1.2, Handover Request record: a minor version, and the records of a message
pub record RequestValue : Type 0 where
  pub minor : ℕ
  pub items : List Item

-- Connection Handover 1.2, Handover Request record: the records are those of a request
pub record IsRequestValue (v : RequestValue) : Type 0 where
  pub minor : v.minor < 16
  pub items : AreItems v.items
  pub contents : HasContents tables.Request Strict v.items

-- Connection Handover 1.2, Handover Request record: a version octet and a message
abbrev pub StandsForRequest : Profile → List ℕ → RequestValue → Type 0
StandsForRequest profile [] v = ⊥
StandsForRequest profile (version ∷ bytes) v = (version ≡ version_octet v.minor)
    × StandsForMessage profile bytes (Some v.items)

-- Connection Handover 1.2, Handover Request record: the payload that is written
abbrev pub WritesRequest : RequestValue → List ℕ → Type 0
WritesRequest v payload = payload ≡ version_octet v.minor ∷ canonical v.items

-- a request of the message, or the message back with the first record that is wrong
abbrev pub MakesRequest : ℕ → List Item → Result RequestValue NotHandover → Type 0
MakesRequest minor items (Ok request) = (request ≡ record { minor = minor; items = items })
    × HasContents tables.Request Strict items
MakesRequest minor items (Err fault) =
    (fault.message ≡ items) × IsFirstWrong tables.Request items fault.index

-- Connection Handover 1.2, Collision Resolution record, which is the first: two octets, most
-- significant first
abbrev pub IsCollisionOf : List Item → ℕ → Type 0
IsCollisionOf [] number = ⊥
IsCollisionOf (i ∷ items) number = number ≡ from_be_bytes w16 i.payload

-- ---- selects

-- Connection Handover 1.2, Handover Select record: a minor version, and the records of a message,
-- if there is one
pub record SelectValue : Type 0 where
  pub minor : ℕ
  pub message : Option (List Item)

-- the records of a select
abbrev pub AreSelected : Option (List Item) → Type 0
AreSelected None = Unit {0}
AreSelected (Some items) = AreItems items × HasContents tables.Select Strict items

-- Connection Handover 1.2, Handover Select record: the records and the minor version of a select
pub record IsSelectValue (v : SelectValue) : Type 0 where
  pub minor : v.minor < 16
  pub message : AreSelected v.message

-- Connection Handover 1.2, Handover Select record: a version octet, alone or with a message
abbrev pub StandsForSelect : Profile → List ℕ → SelectValue → Type 0
StandsForSelect profile [] v = ⊥
StandsForSelect profile (version ∷ bytes) v = (version ≡ version_octet v.minor)
    × StandsForMessage profile bytes v.message

-- NDEF 1.0: the canonical spelling of a message, if there is one
abbrev pub canonical_or_none : Option (List Item) → List ℕ
canonical_or_none None = []
canonical_or_none (Some items) = canonical items

-- Connection Handover 1.2, Handover Select record: the payload that is written
abbrev pub WritesSelect : SelectValue → List ℕ → Type 0
WritesSelect v payload = payload ≡ version_octet v.minor ∷ canonical_or_none v.message

-- a select of the message, if there is one, or the message back with the first record that is wrong
abbrev pub MakesSelect : ℕ → Option (List Item) → Result SelectValue NotHandover → Type 0
MakesSelect minor message (Ok select) = (select ≡ record { minor = minor; message = message })
    × IfSome message (HasContents tables.Select Strict)
MakesSelect minor message (Err fault) = (message ≡ Some fault.message)
    × IsFirstWrong tables.Select fault.message fault.index
