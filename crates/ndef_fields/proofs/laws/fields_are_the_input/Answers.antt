use Rattle.ndef_fields.proofs.Joined.{fields_are_front, fields_are_message, fields_are_payload}
use Rattle.ndef_fields.proofs.laws.fields_are_the_input.Goals as goal

pub returns : goal.returns
returns c = record { message = fields_are_message; front = fields_are_front; payload = fields_are_payload }
