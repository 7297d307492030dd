-- The kind of a record's payload, from its type.
use Rattle.std.specs.Prelude.{◌==◌, ℕ, ◌≤◌, List, length, Option, Some, None, if◌then◌else◌}
use Rattle.ndef_format.specs.Kinds.{kind_of, outer_kind}
use Rattle.ndef_format.specs.Nested.{checked}
use Rattle.ndef_format.specs.Records.{tnf_of}
use Rattle.ndef_format.specs.declared.kind.Kind.{Kind}
use Rattle.ndef_format.specs.declared.kind.Kind.TheVariants as kinds
use Rattle.ndef_format.specs.declared.table.Table.{Table}
use Rattle.ndef_format.specs.declared.table.Table.TheVariants as tables
use Rattle.ndef_c.specs.AlternativeWrites.{IsPartWithin, part_of}
use Rattle.ndef_c.specs.declared.part.NdefPart.{NdefPart}
use Rattle.ndef_c.specs.declared.record.NdefRecord.{NdefRecord}

-- the number of a kind
abbrev pub kind_number : Kind → ℕ
kind_number kinds.Other = 0
kind_number kinds.Text = 1
kind_number kinds.Uri = 2
kind_number kinds.SmartPoster = 3
kind_number kinds.Request = 4
kind_number kinds.Select = 5
kind_number kinds.Carrier = 6
kind_number kinds.Action = 7
kind_number kinds.Size = 8
kind_number kinds.MediaType = 9
kind_number kinds.Alternative = 10
kind_number kinds.Collision = 11
kind_number kinds.Error = 12

-- RTD Smart Poster 1.0 and Connection Handover 1.2: the kind of payloads that hold this message
abbrev pub kind_with : Table → Kind
kind_with tables.SmartPoster = kinds.SmartPoster
kind_with tables.Request = kinds.Request
kind_with tables.Select = kinds.Select

-- .. and the message that payloads of the kind with this number hold; others hold none
abbrev pub table_within : ℕ → Option Table
table_within within =
    if within == kind_number kinds.SmartPoster then Some tables.SmartPoster
    else (if within == kind_number kinds.Request then Some tables.Request
    else (if within == kind_number kinds.Select then Some tables.Select else None))

-- RTD Smart Poster 1.0 and Connection Handover 1.2: the kind of a record in that message
abbrev pub kind_there : Option Table → Kind → Kind
kind_there None kind = kinds.Other
kind_there (Some table) kind = checked table kind

-- .. or in a message of its own
abbrev pub kind_within : ℕ → Kind → Kind
kind_within within kind =
    if within == kind_number kinds.Other then outer_kind kind else kind_there (table_within within) kind

-- where the type of a record lies
abbrev pub type_part : NdefRecord → NdefPart
type_part r = record { at = r.type_at; length = r.type_length }

-- NDEF 1.0, TNF and TYPE: the type lies within the bytes, and the type name format is one of a
-- record
pub record HasType (bytes : List ℕ) (r : NdefRecord) : Type 0 where
  pub within : IsPartWithin (length bytes) (type_part r)
  pub known : r.tnf ≤ 5

-- NDEF 1.0, TYPE: the kind of that type
abbrev pub type_kind : List ℕ → NdefRecord → Kind
type_kind bytes r = kind_of (tnf_of r.tnf) (part_of bytes (type_part r))
