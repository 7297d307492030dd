-- Warnings about a message that is accepted, in sentences.
use Rattle.std.specs.Prelude.{◌≡◌, ℕ, List, Option, Some, None, slice_get}
use Rattle.ndef_format.specs.Records.{Run}
use Rattle.ndef_fields.specs.declared.name.FieldName.{FieldName}
use Rattle.ndef_message.specs.Views.{Viewed}
use Rattle.ndef_diagnostics.specs.RecordRemarks.{BeginsWithFew, IsPayloadRemark, repeated_remark}
use Rattle.ndef_diagnostics.specs.Remarks.{field_remark, remark_text}
use Rattle.ndef_diagnostics.specs.declared.remark.Remark.{Remark}
use Rattle.ndef_c.specs.Fields.{field_number}
use Rattle.ndef_c.specs.Buffers.{Gives}
use Rattle.ndef_c.specs.RefusalMessages.{GivesNone}

-- the sentence for a remark is given, if there is one
abbrev pub GivesRemark : Option Remark → (before after : List ℕ) (counted count status : ℕ) → Type 0
GivesRemark None before after counted count status = GivesNone before after counted count status
GivesRemark (Some remark) before after counted count status = Gives (remark_text remark) before after count status

-- NDEF 1.0 and the standards of its payloads: the same, for a field with the name of this number
pub record GivesFieldWarning (number : ℕ) (octets before after : List ℕ) (counted count status : ℕ) : Type 0 where
  pub name : FieldName
  pub numbered : field_number name ≡ number
  pub gives : GivesRemark (field_remark name octets) before after counted count status

-- a remark, or else another
abbrev pub or_else : Option Remark → Option Remark → Option Remark
or_else (Some remark) other = Some remark
or_else None other = other

-- NDEF 1.0, messages: the warning about the payload of a record, or else about its id
abbrev pub IsRemarkOn : (message : List Run) → Run → Option Remark → Type 0
IsRemarkOn message run remark =
    (payload : Option Remark) × IsPayloadRemark message run payload
    × (remark ≡ or_else payload (repeated_remark message run))

-- the same, if there is such a record
abbrev pub IsRemarkOnOne : (message : List Run) → Option Run → Option Remark → Type 0
IsRemarkOnOne message None remark = remark ≡ None
IsRemarkOnOne message (Some run) remark = IsRemarkOn message run remark

-- the same of the record with an index, if the message has few records
abbrev pub IsRemarkIn : Option Viewed → (index : ℕ) → Option Remark → Type 0
IsRemarkIn None index remark = remark ≡ None
IsRemarkIn (Some message) index remark = IsRemarkOnOne message.runs (slice_get message.runs index) remark

-- NDEF 1.0, messages: the same, of the message with which the bytes begin
abbrev pub IsRemarkAt : (bytes : List ℕ) → (index : ℕ) → Option Remark → Type 0
IsRemarkAt bytes index remark =
    (message : Option Viewed) × BeginsWithFew bytes message × IsRemarkIn message index remark

-- NDEF 1.0, messages: the sentence for it is given, if there is one
pub record GivesRecordWarning (bytes : List ℕ) (index : ℕ) (before after : List ℕ) (counted count status : ℕ)
    : Type 0 where
  pub remark : Option Remark
  pub is : IsRemarkAt bytes index remark
  pub gives : GivesRemark remark before after counted count status
