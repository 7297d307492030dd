-- The fields of the message with which an input begins.
use Rattle.std.specs.Prelude.{◌≡◌, ℕ, ◌≤◌, List, length, take, Result, Ok, Err}
use Rattle.ndef_format.specs.Messages.{Item, all_pieces}
use Rattle.ndef_format.specs.Limits.{LimitValues}
use Rattle.ndef_format.specs.declared.kind.Kind.{Kind}
use Rattle.ndef_format.specs.declared.refusal.Refusal.{Refusal}
use Rattle.ndef_format.specs.Accepted.{Accepted, IsViable}
use Rattle.ndef_format.specs.Refusals.{Refuses}
use Rattle.ndef_format.specs.Payloads.{IsTypedPayload}
use Rattle.ndef_format.specs.NestedReasons.{TypedReason}
use Rattle.ndef_fields.specs.declared.field.Field.{Field}
use Rattle.ndef_fields.specs.declared.report.FieldReport.{FieldReport}
use Rattle.ndef_fields.specs.Messages.{AreParts, IsOuterOwn}
use Rattle.ndef_fields.specs.Parts.{Part, placed}
use Rattle.ndef_fields.specs.Fronts.{AreFrontParts, ArePayloadFront}

-- NDEF 1.0, messages: the first `count` bytes are a message, and these are the fields of its pieces
pub record AreFields (limits : LimitValues) (input : List ℕ) (reported : List Field) : Type 0 where
  pub count : ℕ
  pub within : count ≤ length input
  pub items : List Item
  pub accepted : Accepted IsTypedPayload limits items (take count input)
  pub parts : List Part
  pub spelled : AreParts 0 IsOuterOwn (all_pieces accepted.runs) (take count input) parts
  pub placed : reported ≡ placed 0 parts

-- NDEF 1.0, messages: the fields of the message at the front of an input and the runs of its
-- records, or its refusal
abbrev pub TellsFields : LimitValues → (input : List ℕ) → Result FieldReport Refusal → Type 0
TellsFields limits input (Ok reported) =
    (a : AreFields limits input reported.fields) × (a.count ≡ reported.taken)
    × (a.accepted.runs ≡ reported.items)
TellsFields limits input (Err refusal) = Refuses IsTypedPayload TypedReason limits input refusal

-- NDEF 1.0, messages: the fields of a front of a message
pub record AreFieldsBefore (bytes : List ℕ) (reported : List Field) : Type 0 where
  pub parts : List Part
  pub spelled : AreFrontParts bytes parts
  pub placed : reported ≡ placed 0 parts

-- RTD Text 1.0, RTD URI 1.0, RTD Smart Poster 1.0 and Connection Handover 1.2: the fields of a
-- payload of this kind, or of a front of one
pub record ArePayloadFields (kind : Kind) (payload : List ℕ) (reported : List Field) : Type 0 where
  pub parts : List Part
  pub spelled : ArePayloadFront kind payload parts
  pub placed : reported ≡ placed 0 parts

-- the bytes are a front of a message
abbrev pub IsMessageFront : List ℕ → Type 0
IsMessageFront bytes = (limits : LimitValues) × IsViable IsTypedPayload limits bytes
