use Rattle.std.proofs.Common.{rules, ◌≡◌, [], ◌∙◌, ap, sym}
use Rattle.ndef_fields.specs.declared.name.FieldName.TheVariants as names
use Rattle.ndef_fields.proofs.Lasts.{field_last, last_from}
use Rattle.ndef_fields.proofs.last.field_of_last.Goals as goal

pub returns : goal.returns
returns c =
    let over : c.loop-field.fields ≡ [] = search rules in
    field_last c.args.bytes.now (record { depth = 0; name = names.Header }) c.loop-field.last (sym (c.loop-field.invariant ∙ ap (last_from c.loop-field.last) over))
