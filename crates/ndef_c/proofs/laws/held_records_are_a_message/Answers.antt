use Rattle.ndef_c.proofs.Mixed.{held_are_a_message}
use Rattle.ndef_c.proofs.laws.held_records_are_a_message.Goals as goal

pub returns : goal.returns
returns c = held_are_a_message c.writing_is_spelling.ensures.messages c.writing_is_spelling.ensures.pieces
