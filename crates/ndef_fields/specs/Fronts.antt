-- The field of each octet of a front of a message.
use Rattle.std.specs.Prelude.{◌≡◌, ℕ, Option, Some, None, List, ◌++◌, take, drop, slice_index}
use Rattle.ndef_format.specs.Records.{tnf_of}
use Rattle.ndef_format.specs.Kinds.{kind_of, outer_kind}
use Rattle.ndef_format.specs.HeadReasons.{is_set, tnf_number}
use Rattle.ndef_format.specs.Nested.{kind_in, table_in}
use Rattle.ndef_format.specs.declared.kind.Kind.{Kind}
use Rattle.ndef_format.specs.declared.table.Table.{Table}
use Rattle.ndef_format.specs.declared.tnf.Tnf.{Tnf}
use Rattle.ndef_fields.specs.declared.name.FieldName.TheVariants as names
pub use Rattle.ndef_piece.specs.Come.{content_come, id_come, id_length_come, kind_come, payload_length_come}
use Rattle.ndef_fields.specs.Lasts.{kind_there}
use Rattle.ndef_fields.specs.Messages.{AreParts, IsInnerOwn, IsOuterOwn, version_length}
use Rattle.ndef_fields.specs.Parts.{Part, reported}
use Rattle.ndef_fields.specs.Payloads.{leaf_parts}
use Rattle.ndef_fields.specs.Refusals.{AreWholeBefore}

-- ---- a front of a piece

-- NDEF 1.0, TNF: the type name format in the header octet
abbrev pub tnf_come : List ℕ → Tnf
tnf_come s = tnf_of (tnf_number (slice_index s 0))

-- NDEF 1.0, record layout: the fields of a front of a piece, with the parts of what has come of its
-- payload
abbrev pub front_parts : ℕ → List ℕ → List Part → List Part
front_parts depth s payload =
    reported depth names.Header (take 1 s)
    ++ (reported depth names.KindLength (take 1 (drop 1 s))
    ++ (reported depth names.PayloadLength (payload_length_come s)
    ++ (reported depth names.IdLength (id_length_come s)
    ++ (reported depth names.Kind (kind_come s) ++ (reported depth names.Id (id_come s) ++ payload)))))

-- ---- a front of a payload

-- RTD Smart Poster 1.0 and Connection Handover 1.2: the parts of what has come of a payload in a
-- nested message
abbrev pub inner_come : Table → List ℕ → List Part
inner_come table s = leaf_parts 1 (kind_in table (tnf_come s) (kind_come s)) (content_come s)

-- RTD Smart Poster 1.0 and Connection Handover 1.2: the parts of a front of a nested message: those
-- of whole pieces, and those of a front of one more
pub record AreNestedFront (table : Table) (bytes : List ℕ) (parts : List Part) : Type 0 where
  pub rest : List ℕ
  pub whole : AreWholeBefore bytes rest
  pub before : List Part
  pub spelled : AreParts 1 (IsInnerOwn table) whole.pieces whole.front before
  pub parts_are : parts ≡ before ++ front_parts 1 rest (inner_come table rest)

-- RTD Smart Poster 1.0 and Connection Handover 1.2: the parts of a front of a payload that holds a
-- nested message: a version octet in a handover, and the message
abbrev pub AreNestFront : Table → List ℕ → List Part → Type 0
AreNestFront table s parts =
    (inner : List Part) × (parts ≡ reported 0 names.Version (take (version_length table) s) ++ inner)
    × AreNestedFront table (drop (version_length table) s) inner

-- the parts of a front of a payload of a kind, which holds this message or none
abbrev pub AreFrontBy : Option Table → Kind → List ℕ → List Part → Type 0
AreFrontBy (Some table) kind s parts = AreNestFront table s parts
AreFrontBy None kind s parts = parts ≡ leaf_parts 0 (outer_kind kind) s

-- RTD Smart Poster 1.0 and Connection Handover 1.2: the parts of a front of a payload, by its kind
abbrev pub ArePayloadFront : Kind → List ℕ → List Part → Type 0
ArePayloadFront kind = AreFrontBy (table_in kind) kind

-- NDEF 1.0, chunked payloads: the kind of a payload of which a front has come; none in several
-- pieces is validated
abbrev pub kind_begun : List ℕ → Kind
kind_begun s = kind_there (is_set 5 (slice_index s 0)) (kind_of (tnf_come s) (kind_come s))

-- NDEF 1.0, messages: the parts of a front of a message: those of whole pieces, and those of a
-- front of one more
pub record AreFrontParts (bytes : List ℕ) (parts : List Part) : Type 0 where
  pub rest : List ℕ
  pub whole : AreWholeBefore bytes rest
  pub before : List Part
  pub spelled : AreParts 0 IsOuterOwn whole.pieces whole.front before
  pub payload : List Part
  pub content : ArePayloadFront (kind_begun rest) (content_come rest) payload
  pub parts_are : parts ≡ before ++ front_parts 0 rest payload
