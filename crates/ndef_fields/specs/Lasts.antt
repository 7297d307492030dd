-- The field of the last of some bytes, in payloads and nested messages too.
use Rattle.std.specs.Prelude.{◌≡◌, ℕ, ◌+◌, ◌<◌, Bool, Option, Some, None, List, [], ◌∷◌, ◌++◌, length, take, slice_index, if◌then◌else◌}
use Rattle.ndef_format.specs.Limits.{LimitValues}
use Rattle.ndef_format.specs.Records.{Piece, Run, tnf_of}
use Rattle.ndef_format.specs.declared.refusal.Refusal.{Refusal}
use Rattle.ndef_format.specs.Kinds.{kind_of}
use Rattle.ndef_format.specs.declared.kind.Kind.{Kind}
use Rattle.ndef_format.specs.declared.kind.Kind.TheVariants as kinds
use Rattle.ndef_format.specs.Refusals.{IsReason, Refuses}
use Rattle.ndef_format.specs.Nested.{kind_in, table_in}
use Rattle.ndef_format.specs.Payloads.{IsTypedPayload}
use Rattle.ndef_format.specs.NestedReasons.{TypedReason}
use Rattle.ndef_format.specs.declared.table.Table.{Table}
use Rattle.ndef_format.specs.declared.table.Table.TheVariants as tables
use Rattle.ndef_format.specs.Positions.{Field, InPayload, IsAt}
use Rattle.ndef_fields.specs.declared.last.ByteField.{ByteField}
use Rattle.ndef_fields.specs.declared.name.FieldName.{FieldName}
use Rattle.ndef_fields.specs.declared.name.FieldName.TheVariants as names
use Rattle.ndef_fields.specs.Parts.{Part}
use Rattle.ndef_fields.specs.Payloads.{leaf_parts}
use Rattle.ndef_format.specs.Kinds.{outer_kind}
use Rattle.ndef_fields.specs.Refusals.{IsNameOf}

-- NDEF 1.0, messages: the bytes but the last are a front of a message, and the last is in this
-- field
pub record StandsIn (bytes : List ℕ) (field : Field) (octet : ℕ) : Type 0 where
  pub front : List ℕ
  pub split : bytes ≡ front ++ octet ∷ []
  pub limits : LimitValues
  pub runs : List Run
  pub begun : List Piece
  pub at : IsAt limits front runs begun field

-- the last of some parts has this name
abbrev pub EndsIn : List Part → FieldName → Type 0
EndsIn [] name = ⊥
EndsIn (part ∷ []) name = name ≡ part.name
EndsIn (part ∷ next ∷ parts) name = EndsIn (next ∷ parts) name

-- RTD Smart Poster 1.0 and Connection Handover 1.2: the name of the octet that is in this field
-- of a nested message
abbrev pub IsInnerField : Table → Field → ℕ → FieldName → Type 0
IsInnerField table (InPayload head kind id content) octet name =
    EndsIn (leaf_parts 1 (kind_in table (tnf_of head.tnf) kind) (content ++ octet ∷ [])) name
IsInnerField table field octet name = IsNameOf field name

-- RTD Smart Poster 1.0 and Connection Handover 1.2: that of the last of these octets of a nested
-- message
abbrev pub IsLastInside : Table → List ℕ → FieldName → Type 0
IsLastInside table bytes name = (field : Field) (octet : ℕ)
    → StandsIn bytes field octet → IsInnerField table field octet name

-- Connection Handover 1.2: the field of the last of these octets of a handover's payload, which
-- begins with its version
abbrev pub IsHandoverLast : Table → List ℕ → ByteField → Type 0
IsHandoverLast table (version ∷ octet ∷ s) byte =
    (byte.depth ≡ 1) × IsLastInside table (octet ∷ s) byte.name
IsHandoverLast table _ byte = (byte.depth ≡ 0) × (byte.name ≡ names.Version)

-- RTD Smart Poster 1.0 and Connection Handover 1.2: the same of a payload that holds a nested
-- message
abbrev pub IsNestLast : Table → List ℕ → ByteField → Type 0
IsNestLast tables.SmartPoster s byte =
    (byte.depth ≡ 1) × IsLastInside tables.SmartPoster s byte.name
IsNestLast table s byte = IsHandoverLast table s byte

-- the same of a payload of a kind, which holds this message or none
abbrev pub IsLastBy : Option Table → Kind → List ℕ → ByteField → Type 0
IsLastBy (Some table) kind s byte = IsNestLast table s byte
IsLastBy None kind s byte = (byte.depth ≡ 0) × EndsIn (leaf_parts 0 (outer_kind kind) s) byte.name

-- the field of the last of these octets of a payload of this kind
abbrev pub IsPayloadLast : Kind → List ℕ → ByteField → Type 0
IsPayloadLast kind = IsLastBy (table_in kind) kind

-- NDEF 1.0, chunked payloads: the kind of the payload of a piece; a payload in several pieces isn't
-- validated
abbrev pub kind_there : Bool → Kind → Kind
kind_there chunked kind = if chunked then kinds.Other else kind

-- NDEF 1.0, record layout: the octet is in this field
abbrev pub IsFieldOf : Field → ℕ → ByteField → Type 0
IsFieldOf (InPayload head kind id content) octet byte =
    IsPayloadLast (kind_there head.chunked (kind_of (tnf_of head.tnf) kind)) (content
    ++ octet ∷ []) byte
IsFieldOf field octet byte = (byte.depth ≡ 0) × IsNameOf field byte.name

-- NDEF 1.0, messages: the last of these bytes is in this field
abbrev pub IsFieldOfLast : List ℕ → ByteField → Type 0
IsFieldOfLast bytes byte =
    (field : Field) (octet : ℕ) → StandsIn bytes field octet → IsFieldOf field octet byte

-- the reason of a refusal rests on a field of the byte, and the byte is in it
pub record RestsOn (limits : LimitValues) (input : List ℕ) (refusal : Refusal) (byte : ByteField) : Type 0 where
  pub runs : List Run
  pub begun : List Piece
  pub field : Field
  pub at : IsAt limits (take refusal.at input) runs begun field
  pub why : IsReason TypedReason limits runs begun field (slice_index input refusal.at) refusal.reason
  pub stands : IsFieldOf field (slice_index input refusal.at) byte

-- ---- laws

-- The field of a refused byte is the one on which its reason rests.
abbrev pub RefusedInFields : Type 0
RefusedInFields = (limits : LimitValues) (input : List ℕ) (refusal : Refusal) (byte : ByteField)
    → Refuses IsTypedPayload TypedReason limits input refusal → refusal.at < length input
    → IsFieldOfLast (take (refusal.at + 1) input) byte → RestsOn limits input refusal byte
