-- The expectation for a payload that doesn't fit its length, from the layout of its kind.
use Rattle.std.specs.Prelude.{ℕ, zero, suc, ◌-◌, ◌%◌, ◌==◌, if◌then◌else◌, List, [], ◌∷◌, nat_lt}
use Rattle.ndef_format.specs.declared.kind.Kind.{Kind}
use Rattle.ndef_format.specs.declared.profile.Profile.TheVariants.{Strict}
use Rattle.ndef_format.specs.declared.table.Table.{Table}
use Rattle.ndef_format.specs.declared.table.Table.TheVariants as tables
use Rattle.ndef_fields.specs.declared.name.FieldName.{FieldName}
use Rattle.ndef_fields.specs.declared.name.FieldName.TheVariants as names
use Rattle.ndef_lang.specs.declared.leaf.Leaf.{Leaf}
use Rattle.ndef_lang.specs.declared.leaf.Leaf.TheVariants.{Field}
use Rattle.ndef_lang.specs.declared.leaf.Stage.{Stage}
use Rattle.ndef_lang.specs.declared.leaf.Stage.TheVariants as stages
use Rattle.ndef_lang.specs.declared.lengths.Lengths.{Lengths}
use Rattle.ndef_lang.specs.declared.lengths.Lengths.TheVariants.{Exactly, From}
use Rattle.ndef_lang.specs.Machine.Leaf.{field_after, leaf_lengths, leaf_of}
use Rattle.ndef_diagnostics.specs.declared.expected.Expected.{Expected}
use Rattle.ndef_diagnostics.specs.declared.expected.Expected.TheVariants as expected
use Rattle.ndef_diagnostics.specs.declared.expected.Whose.TheVariants as whose

-- RTD Smart Poster 1.0 and Connection Handover 1.2: the length of the shortest payload that holds this message: a URI
-- with an identifier code; a version and a collision record; a version
abbrev pub least_nest : Table → ℕ
least_nest tables.SmartPoster = 5
least_nest tables.Request = 8
least_nest tables.Select = 1

-- a payload of this kind has at least this length
abbrev pub of_least : Kind → (least given : ℕ) → Expected
of_least kind least given = if nat_lt given least then expected.LeastLength kind least given else expected.Nothing

-- RTD 1.0 and Connection Handover 1.2: payloads of a kind have these lengths
abbrev pub of_lengths : Lengths → Kind → (given : ℕ) → Expected
of_lengths (Exactly n) kind given = if given == n then expected.Nothing else expected.FixedLength kind n given
of_lengths (From n) kind given = of_least kind n given
of_lengths lengths kind given = expected.Nothing

-- RTD Text 1.0 and Connection Handover 1.2: the field whose length the first octet of a stage gives
abbrev pub field_named : Stage → FieldName
field_named stages.Status = names.Language
field_named stages.CarrierKindLength = names.CarrierKind
field_named stages.ReferenceLength = names.Reference
field_named stage = names.Auxiliary

-- RTD Text 1.0 and Connection Handover 1.2: after a field, this number of octets is left for the stage
abbrev pub of_stage : Stage → (left : ℕ) → Expected
of_stage stages.Utf16 left = if left % 2 == 1 then expected.EvenText else expected.Nothing
of_stage stages.AuxiliaryCount left = if left == 0 then expected.AuxiliaryCount else expected.Nothing
of_stage (stages.References count) left =
    if nat_lt left count then expected.Size whose.Auxiliary count left else expected.Nothing
of_stage stage left = expected.Nothing

-- RTD Text 1.0 and Connection Handover 1.2: a field of this name is no longer than what is left, and its stage fits
abbrev pub of_field : FieldName → Leaf → (left : ℕ) → Expected
of_field name (Field n class next) left =
    if nat_lt left n then expected.Size (whose.Field name) n left else of_stage next (left - n)
of_field name leaf left = expected.Nothing

-- Connection Handover 1.2, Error record: the data of a reason has these lengths
abbrev pub of_data : Lengths → (reason left : ℕ) → Expected
of_data (Exactly n) reason left = if left == n then expected.Nothing else expected.ErrorLength reason n left
of_data lengths reason left = expected.Nothing

-- RTD Text 1.0 and Connection Handover 1.2: after the first octet of a stage, this number of octets is left
abbrev pub after_first : Stage → (octet left : ℕ) → Expected
after_first stages.Utf8 octet left = expected.WholeCharacter
after_first stages.Utf16 octet left = expected.WholeCharacter
after_first stages.ErrorReason octet left = of_data (leaf_lengths (field_after stages.ErrorReason octet)) octet left
after_first stage octet left = of_field (field_named stage) (field_after stage octet) left

-- RTD Text 1.0, RTD URI 1.0, RTD Smart Poster 1.0 and Connection Handover 1.2: the expectation where the rest of a
-- payload, of this length, begins with these octets
abbrev pub length_mismatch_in : Leaf → (left : ℕ) → List ℕ → Expected
length_mismatch_in (Field (suc n) class next) left (b ∷ s) = length_mismatch_in (Field n class next) (left - 1) s
length_mismatch_in (Field zero class next) left (b ∷ []) = after_first next b (left - 1)
length_mismatch_in (Field zero class next) left (b ∷ c ∷ s) = length_mismatch_in (field_after next b) (left - 1) (c ∷ s)
length_mismatch_in leaf left s = expected.Nothing

-- the same, where no payload of a kind with this length begins with these octets
abbrev pub length_mismatch : Kind → (given : ℕ) → List ℕ → Expected
length_mismatch kind given [] = of_lengths (leaf_lengths (leaf_of kind Strict)) kind given
length_mismatch kind given (b ∷ s) = length_mismatch_in (leaf_of kind Strict) given (b ∷ s)
