-- The pieces of a message and those of the messages within its payloads, one after another.
use Rattle.std.specs.Prelude.{◌≡◌, ℕ, ◌+◌, ◌^◌, ◌<◌, Option, Some, None, List, [], length, drop, if◌then◌else◌}
use Rattle.ndef_format.specs.Records.{tnf_of}
use Rattle.ndef_format.specs.Kinds.{kind_of}
use Rattle.ndef_format.specs.HeadReasons.{is_set, tnf_number}
use Rattle.ndef_format.specs.Nested.{kind_in, table_in, table_of}
use Rattle.ndef_format.specs.declared.kind.Kind.{Kind}
use Rattle.ndef_format.specs.declared.kind.Kind.TheVariants as kinds
use Rattle.ndef_format.specs.declared.table.Table.{Table}
use Rattle.ndef_format.specs.declared.table.Table.TheVariants as tables
use Rattle.ndef_piece.specs.declared.front.PieceFront.{PieceFront}
use Rattle.ndef_piece.specs.declared.walk.WalkStep.{WalkStep}
use Rattle.ndef_piece.specs.declared.walk.Walk.{Walk}
use Rattle.ndef_piece.specs.Come.{IsFrontOf}

-- Connection Handover 1.2, version octet: the number of octets of a payload before the message that it holds
abbrev pub version_length : Table → ℕ
version_length tables.SmartPoster = 0
version_length tables.Request = 1
version_length tables.Select = 1

-- RTD Smart Poster 1.0 and Connection Handover 1.2: the octets of the message in a payload
abbrev pub inner_by : Option Table → List ℕ → List ℕ
inner_by (Some table) s = drop (version_length table) s
inner_by None s = []

-- NDEF 1.0, chunked payloads: the kind of the payload of a piece; one in several pieces isn't validated
abbrev pub outer_kind_of : PieceFront → Kind
outer_kind_of f = if is_set 5 f.header then kinds.Other else kind_of (tnf_of (tnf_number f.header)) f.kind.now

-- the octets that are left
abbrev pub left : Walk → ℕ
left w = length w.inner.now + length w.outer.now

-- no place is past the greatest
abbrev pub HasPlaces : Walk → Type 0
HasPlaces w = w.at + left w < 2 ^ 64

-- RTD Smart Poster 1.0 and Connection Handover 1.2: the next piece of the nested message
pub record IsInnerStep (w : Walk) (step : WalkStep) (next : Walk) : Type 0 where
  pub front : IsFrontOf w.inner.now next.inner.now step.piece
  pub depth : step.depth ≡ 1
  pub kind : step.kind ≡ kind_in w.table (tnf_of (tnf_number step.piece.header)) step.piece.kind.now
  pub table : next.table ≡ w.table
  pub outer : next.outer.now ≡ w.outer.now
  pub after : next.at ≡ w.at + length step.piece.octets.now

-- NDEF 1.0, messages: the next piece of the message itself, and the message in its payload
pub record IsOuterStep (w : Walk) (step : WalkStep) (next : Walk) : Type 0 where
  pub over : w.inner.now ≡ []
  pub front : IsFrontOf w.outer.now next.outer.now step.piece
  pub depth : step.depth ≡ 0
  pub kind : step.kind ≡ outer_kind_of step.piece
  pub inner : next.inner.now ≡ inner_by (table_in step.kind) step.piece.payload.now
  pub table : next.table ≡ table_of step.kind
  pub after : next.at + length next.inner.now ≡ w.at + length step.piece.octets.now

-- the next piece, as far as it has come, and those after it
pub record IsNextStep (w : Walk) (step : WalkStep) (next : Walk) : Type 0 where
  pub at : step.at ≡ w.at
  pub inner : 0 < length w.inner.now → IsInnerStep w step next
  pub outer : w.inner.now ≡ [] → IsOuterStep w step next
  pub places : next.at + left next ≡ w.at + left w
  pub fewer : left next < left w
