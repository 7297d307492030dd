use Rattle.ndef_c.proofs.FieldLists.{one_field_with, steps_lead_on}
use Rattle.ndef_c.proofs.laws.fields_are_stepped.Goals as goal

pub returns : goal.returns
returns c = record { one = one_field_with; next = steps_lead_on }
