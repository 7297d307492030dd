use Rattle.std.proofs.Common.{◌≡◌, length}
use Rattle.ndef_fields.specs.declared.name.FieldName.TheVariants as names
use Rattle.ndef_fields.specs.Parts.{placed}
use Rattle.ndef_fields.specs.Walks.{outer_in}
use Rattle.ndef_fields.proofs.Lasts.{last_from}
use Rattle.ndef_fields.proofs.last.field_of_last.Given as goal

abbrev pub invariant-loop-field : goal.invariant-loop-field
invariant-loop-field l = last_from (record { depth = 0; name = names.Header }) (placed 0 (outer_in l.bytes)) ≡ last_from l.last l.fields

abbrev pub decreases-loop-field : goal.decreases-loop-field
decreases-loop-field l = length l.fields
