use Rattle.ndef_message.proofs.Fitting.{heads_alone}
use Rattle.ndef_message.proofs.laws.opaque_messages_fit.Goals as goal

pub returns : goal.returns
returns c = heads_alone c.format_laws.ensures.laws c.next_fields_are_exact.ensures.one c.conditions_are_exact.ensures.order _ _ c.opaque_payloads.ensures.sets
