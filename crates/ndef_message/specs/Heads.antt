-- The heads of the chunks in which a record is written.
use Rattle.std.specs.Prelude.{ℕ, Bool, false, not, ◌==◌, ◌&&◌, Option, None, Some, if◌then◌else◌}
use Rattle.ndef_format.specs.Records.{HeadFields, code}
use Rattle.ndef_format.specs.declared.tnf.Tnf.{Tnf}
use Rattle.ndef_message.specs.declared.form.Form.{Form}
use Rattle.ndef_message.specs.declared.heads.Standing.{Standing}
use Rattle.ndef_message.specs.Written.{is_short}

-- NDEF 1.0, ID_LENGTH: there where the id isn't empty
abbrev pub written_id_length : ℕ → Option ℕ
written_id_length n = if n == 0 then None else Some n

-- NDEF 1.0, chunked payloads: the first chunk has type name format, type and id of its record
abbrev pub first_fields : Standing → Form → Tnf → (kind id part : ℕ) → HeadFields
first_fields standing form tnf kind id part = record {
  first = standing.first;
  last = standing.alone && standing.last;
  chunked = not standing.alone;
  short = is_short form part;
  tnf = code tnf;
  kind_length = kind;
  payload_length = part;
  id_length = written_id_length id;
}

-- NDEF 1.0, chunked payloads: a later chunk is Unchanged, without type and id
abbrev pub later_fields : (last ends : Bool) → Form → (part : ℕ) → HeadFields
later_fields last ends form part = record {
  first = false;
  last = ends && last;
  chunked = not ends;
  short = is_short form part;
  tnf = 6;
  kind_length = 0;
  payload_length = part;
  id_length = None;
}
