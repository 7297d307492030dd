use Rattle.ndef_fields.proofs.Refused.{refused_in_fields}
use Rattle.ndef_fields.proofs.laws.refusals_rest_on_fields.Goals as goal

pub returns : goal.returns
returns c = refused_in_fields
