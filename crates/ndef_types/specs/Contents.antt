-- The records of nested messages, one after another (NFC Forum, RTD Smart Poster 1.0 and Connection
-- Handover 1.2).
use Rattle.std.specs.Prelude.{◌≡◌, ◌<◌, ℕ, List, [], take, slice_get, Option, Some, None, ⊤}
use Rattle.std.specs.List.{AllByRecursion}
use Rattle.ndef_format.specs.Messages.{Item, SpellsBy}
use Rattle.ndef_format.specs.Records.{Run}
use Rattle.ndef_format.specs.declared.profile.Profile.{Profile}
use Rattle.ndef_format.specs.declared.profile.Profile.TheVariants.{Strict}
use Rattle.ndef_format.specs.Nested.{IsPayload, kind_in}
use Rattle.ndef_format.specs.declared.kind.Kind.{Kind}
use Rattle.ndef_format.specs.declared.kind.Kind.TheVariants as kinds
use Rattle.ndef_format.specs.declared.table.Table.{Table}
use Rattle.ndef_format.specs.declared.table.Table.TheVariants.{SmartPoster, Request, Select}

-- ---- the first record with a property

-- none of the records has it
abbrev pub Lack : (Item → Type 0) → List Item → Type 0
Lack P items = AllByRecursion (λ i. P i → ⊥) items

-- the record at k has it, and none before does
pub record IsFirstAt (P : Item → Type 0) (items : List Item) (k : ℕ) (i : Item) : Type 0 where
  pub at : slice_get items k ≡ Some i
  pub has : P i
  pub before : Lack P (take k items)

-- the first record that has it, if there is one
abbrev pub IsFirstOf : (Item → Type 0) → List Item → Option Item → Type 0
IsFirstOf P items None = Lack P items
IsFirstOf P items (Some i) = (k : ℕ) × IsFirstAt P items k i

-- RTD Smart Poster 1.0 and Connection Handover 1.2: the record is of the kind, in a nested message
abbrev pub IsOfKind : Table → Kind → Item → Type 0
IsOfKind table kind i = kind_in table i.tnf i.kind ≡ kind

-- ---- records in order

-- RTD Smart Poster 1.0: no second URI; Connection Handover 1.2: a request begins with its collision
-- resolution
abbrev pub MayFollow : Table → List Item → Kind → Type 0
MayFollow SmartPoster before kind = kind ≡ kinds.Uri → Lack (IsOfKind SmartPoster kinds.Uri) before
MayFollow Request before kind = before ≡ [] → kind ≡ kinds.Collision
MayFollow Select before kind = ⊤

-- RTD Smart Poster 1.0 and Connection Handover 1.2: the record has a payload of its kind, and may
-- follow those before
pub record IsInOrder (table : Table) (before : List Item) (i : Item) : Type 0 where
  pub payload : IsPayload (kind_in table i.tnf i.kind) Strict i.payload
  pub place : MayFollow table before (kind_in table i.tnf i.kind)

-- each of the first n records is in order
abbrev pub AreInOrder : Table → List Item → ℕ → Type 0
AreInOrder table items n =
    (k : ℕ) → k < n → (i : Item) → slice_get items k ≡ Some i → IsInOrder table (take k items) i

-- the first record that isn't
pub record IsFirstWrong (table : Table) (items : List Item) (index : ℕ) : Type 0 where
  pub item : Item
  pub at : slice_get items index ≡ Some item
  pub wrong : IsInOrder table (take index items) item → ⊥
  pub before : AreInOrder table items index

-- -- the values of bytes

-- NDEF 1.0: the bytes are the message; without bytes there is none
abbrev pub StandsForMessage : Profile → List ℕ → Option (List Item) → Type 0
StandsForMessage profile bytes None = bytes ≡ []
StandsForMessage profile bytes (Some items) = (runs : List Run) × SpellsBy profile runs items bytes
