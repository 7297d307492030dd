use Rattle.std.proofs.Common.{◌≡◌, ◌++◌, List, length, map}
use Rattle.ndef_c.specs.Arrays.{set_over}
use Rattle.ndef_c.specs.Fields.{numbers_of}
use Rattle.ndef_c.specs.declared.fields.NdefField.{NdefField}
use Rattle.ndef_c.proofs.fields.write_fields.Given as goal

abbrev pub invariant-loop-field : goal.invariant-loop-field
invariant-loop-field l = record {
  done : List NdefField;
  all : done ++ map numbers_of l.field-iterator ≡ map numbers_of l.fn.fields;
  filled : l.array ≡ set_over done l.fn.array;
  index : l.index ≡ length done;
}
