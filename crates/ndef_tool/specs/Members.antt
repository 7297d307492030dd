-- The records of nested messages, by their kinds and payloads (NFC Forum, RTD Smart Poster 1.0 and Connection
-- Handover 1.2).
use Rattle.std.specs.Prelude.{◌≡◌, ◌≢◌, ◌⊎◌, ℕ, ◌+◌, List, [], ◌∷◌, Option, Some, None, ⊤}
use Rattle.ndef_format.specs.Messages.{Item}
use Rattle.ndef_format.specs.Nested.{HasContents, kind_in, table_of}
use Rattle.ndef_format.specs.Kinds.{kind_of}
use Rattle.ndef_format.specs.declared.kind.Kind.{Kind}
use Rattle.ndef_format.specs.declared.profile.Profile.{Profile}
use Rattle.ndef_format.specs.declared.table.Table.{Table}
use Rattle.ndef_piece.specs.Steps.{inner_by}
use Rattle.ndef_types.specs.Contents.{StandsForMessage}
use Rattle.ndef_types.specs.Links.{IsHandoverRecord, records_of}
use Rattle.ndef_tool.specs.declared.nested.Member.{Member}

-- these are the kinds and payloads of the records
abbrev pub AreMembers : Table → List Item → List Member → Type 0
AreMembers table [] [] = ⊤
AreMembers table (i ∷ items) (m ∷ members) =
    (m.kind ≡ kind_in table i.tnf i.kind) × (m.payload.now ≡ i.payload) × AreMembers table items members
AreMembers table _ _ = ⊥

-- this number of them is of the kind
abbrev pub Counts : Kind → List Member → ℕ → Type 0
Counts kind [] n = n ≡ 0
Counts kind (m ∷ members) n =
    ((m.kind ≡ kind) × (k : ℕ) × (n ≡ 1 + k) × Counts kind members k)
    ⊎ ((m.kind ≢ kind) × Counts kind members n)

-- the payload of the first of the kind, if there is one
abbrev pub IsFirstMember : Kind → List Member → Option (List ℕ) → Type 0
IsFirstMember kind [] payload = payload ≡ None
IsFirstMember kind (m ∷ members) payload =
    ((m.kind ≡ kind) × (payload ≡ Some m.payload.now)) ⊎ ((m.kind ≢ kind) × IsFirstMember kind members payload)

-- RTD Smart Poster 1.0 and Connection Handover 1.2: they are the records of the message in a payload
pub record HasMembers (table : Table) (profile : Profile) (payload : List ℕ) (members : List Member) : Type 0 where
  pub message : Option (List Item)
  pub stands : StandsForMessage profile (inner_by (Some table) payload) message
  pub contents : HasContents table profile (records_of message)
  pub are : AreMembers table (records_of message) members

-- Connection Handover 1.2: they are the records in the first handover request or select, if there is one
abbrev pub FindsFirst : Profile → List Item → Option (List Member) → Type 0
FindsFirst profile [] found = found ≡ None
FindsFirst profile (i ∷ items) found =
    (IsHandoverRecord i × (members : List Member) × (found ≡ Some members)
    × HasMembers (table_of (kind_of i.tnf i.kind)) profile i.payload members)
    ⊎ ((¬ IsHandoverRecord i) × FindsFirst profile items found)
