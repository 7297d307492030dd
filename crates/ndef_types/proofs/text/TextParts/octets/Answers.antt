use Rattle.ndef_types.proofs.TextLemmas.{text_parts}
use Rattle.ndef_types.proofs.text.TextParts.octets.Goals as goal

pub returns-clause-text : goal.returns-clause-text
returns-clause-text c = rw c.split.ensures.text (text_parts c.args.self.now c.split.ensures.is_text).text
