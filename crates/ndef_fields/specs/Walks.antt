-- The parts of a message, or of a front of one, by what has come of each of its pieces.
use Rattle.std.specs.Prelude.{◌≡◌, ℕ, zero, suc, ◌+◌, ◌^◌, ◌<◌, ◌==◌, Option, Some, None, List, [], ◌∷◌, ◌++◌, length, take, drop, if◌then◌else◌}
use Rattle.ndef_format.specs.Kinds.{outer_kind}
use Rattle.ndef_format.specs.Nested.{table_in}
use Rattle.ndef_format.specs.declared.kind.Kind.{Kind}
use Rattle.ndef_format.specs.declared.table.Table.{Table}
use Rattle.ndef_piece.specs.Come.{fronts, id_length_come, payload_length_come}
use Rattle.ndef_piece.specs.Steps.{HasPlaces, version_length}
use Rattle.ndef_piece.specs.declared.front.PieceFront.{PieceFront}
use Rattle.ndef_piece.specs.declared.walk.Walk.{Walk}
use Rattle.ndef_fields.specs.declared.field.Field.{Field}
use Rattle.ndef_fields.specs.declared.inside.Inside.{Inside}
use Rattle.ndef_fields.specs.declared.name.FieldName.{FieldName}
use Rattle.ndef_fields.specs.declared.name.FieldName.TheVariants as names
use Rattle.ndef_fields.specs.declared.stage.Stage.{Stage}
use Rattle.ndef_fields.specs.declared.stage.Stage.TheVariants as stages
use Rattle.ndef_fields.specs.declared.step_fields.StepFields.{StepFields}
use Rattle.ndef_fields.specs.Fronts.{content_come, front_parts, inner_come, kind_begun}
use Rattle.ndef_fields.specs.Parts.{Part, joined, placed, reported}
use Rattle.ndef_fields.specs.Payloads.{leaf_parts, stage_of}
use Rattle.ndef_fields.specs.Stages.{stage_parts, stage_rank}

-- ---- messages

-- NDEF 1.0, messages: the parts of what has come of these pieces, where this gives the parts of payloads
abbrev pub parts_along : ℕ → (List ℕ → List Part) → List (List ℕ) → List Part
parts_along depth own [] = []
parts_along depth own (s ∷ ss) = front_parts depth s (own s) ++ parts_along depth own ss

-- RTD Smart Poster 1.0 and Connection Handover 1.2: the parts of a nested message, or of a front of one
unfoldable pub inner_in : Table → List ℕ → List Part
inner_in table s = parts_along 1 (inner_come table) (fronts s)

-- the parts of a payload of a kind, which holds this message or none
abbrev pub parts_by : Option Table → Kind → List ℕ → List Part
parts_by (Some table) kind s =
    reported 0 names.Version (take (version_length table) s)
    ++ inner_in table (drop (version_length table) s)
parts_by None kind s = leaf_parts 0 (outer_kind kind) s

-- RTD Smart Poster 1.0 and Connection Handover 1.2: the parts of a payload of this kind, or of a front of one
abbrev pub payload_parts : Kind → List ℕ → List Part
payload_parts kind = parts_by (table_in kind) kind

-- those of what has come of the payload of a piece
abbrev pub outer_come : List ℕ → List Part
outer_come s = payload_parts (kind_begun s) (content_come s)

-- NDEF 1.0, messages: the parts of a message, or of a front of one
unfoldable pub outer_in : List ℕ → List Part
outer_in s = parts_along 0 outer_come (fronts s)

-- ---- the fields of one piece

-- the field with which a payload of a kind begins, which holds this message or none
abbrev pub stage_by : Option Table → Kind → Stage
stage_by (Some table) kind = stages.Whole names.Version
stage_by None kind = stage_of (outer_kind kind)

-- the octets of the fields before this message
abbrev pub inside_by : Option Table → List ℕ → List ℕ
inside_by (Some table) s = take (version_length table) s
inside_by None s = s

-- RTD Smart Poster 1.0 and Connection Handover 1.2: the fields of a payload of this kind, before a nested message
pub record IsOuterInside (kind : Kind) (s : List ℕ) (i : Inside) : Type 0 where
  pub stage : i.stage ≡ stage_by (table_in kind) kind
  pub octets : i.octets.now ≡ inside_by (table_in kind) s

-- the parts of a payload that are left
abbrev pub inside_parts : ℕ → Inside → List Part
inside_parts depth i = stage_parts depth i.stage i.octets.now

-- the next part, which may have no octets, and those after it
pub record IsInsideStep (i : Inside) (name : FieldName) (size : ℕ) (j : Inside) : Type 0 where
  pub octets : List ℕ
  pub size_is : length octets ≡ size
  pub parts : (depth : ℕ) → inside_parts depth i ≡ reported depth name octets ++ inside_parts depth j
  pub fewer : stage_rank j.stage < stage_rank i.stage

-- NDEF 1.0, record layout: the parts of the head, from the last to the first
abbrev pub head_name : ℕ → FieldName
head_name n =
    if n == 5 then names.Header
    else (if n == 4 then names.KindLength
    else (if n == 3 then names.PayloadLength
    else (if n == 2 then names.IdLength
    else (if n == 1 then names.Kind else names.Id))))

-- their octets
abbrev pub head_octets : ℕ → PieceFront → List ℕ
head_octets n f =
    if n == 5 then take 1 f.octets.now
    else (if n == 4 then take 1 (drop 1 f.octets.now)
    else (if n == 3 then payload_length_come f.octets.now
    else (if n == 2 then id_length_come f.octets.now
    else (if n == 1 then f.kind.now else f.id.now))))

-- that many of them, and then those of the payload
abbrev pub head_left : ℕ → ℕ → PieceFront → List Part → List Part
head_left depth zero f payload = payload
head_left depth (suc n) f payload = reported depth (head_name n) (head_octets n f) ++ head_left depth n f payload

-- the parts of the piece that are left
abbrev pub step_parts : StepFields → List Part
step_parts s = head_left s.depth s.left s.piece (inside_parts s.depth s.inside)

-- the most of them that there may be
abbrev pub step_rank : StepFields → ℕ
step_rank s = s.left + stage_rank s.inside.stage

-- no place of theirs is past the greatest
abbrev pub HasRoom : StepFields → Type 0
HasRoom s = s.at + length (joined (step_parts s)) < 2 ^ 64

-- the next part, which may have no octets, and those after it
pub record IsPart (s t : StepFields) (field : Field) : Type 0 where
  pub octets : List ℕ
  pub field_is : field ≡ record { at = s.at; length = length octets; depth = s.depth; name = field.name }
  pub at : t.at ≡ s.at + length octets
  pub parts : step_parts s ≡ reported s.depth field.name octets ++ step_parts t
  pub fewer : step_rank t < step_rank s

-- ---- all fields

-- the parts of these pieces
abbrev pub walk_parts : Walk → List Part
walk_parts w = inner_in w.table w.inner.now ++ outer_in w.outer.now

-- the fields that are left
abbrev pub fields_left : Walk → StepFields → List Field
fields_left w s = placed s.at (step_parts s ++ walk_parts w)

-- the pieces are those after the one whose fields are left
pub record IsSound (w : Walk) (s : StepFields) : Type 0 where
  pub places : HasPlaces w
  pub after : s.at + length (joined (step_parts s)) ≡ w.at
