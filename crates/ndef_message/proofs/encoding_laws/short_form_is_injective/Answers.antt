use Rattle.ndef_message.proofs.ShortForm.{short_form_is_injective}
use Rattle.ndef_message.proofs.encoding_laws.short_form_is_injective.Goals as goal

pub returns : goal.returns
returns c = short_form_is_injective c.one_meaning.ensures.once c.writing_is_spelling.ensures.messages
