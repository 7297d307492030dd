use Rattle.std.proofs.Common.{◌≡◌, ◌++◌, ◌≤◌, ℕ, List}
use Rattle.ndef_fields.specs.FieldLaws.{AreGapless}
use Rattle.ndef_fields.specs.declared.field.Field.{Field}
use Rattle.ndef_c.proofs.fields.field_with.Given as goal

abbrev pub invariant-loop-field : goal.invariant-loop-field
invariant-loop-field l = record {
  done : List Field;
  all : l.fn.fields ≡ done ++ l.field-iterator;
  at : ℕ;
  reached : at ≤ l.place;
  gapless : (end : ℕ) → AreGapless 0 l.fn.fields end → AreGapless at l.field-iterator end;
}
