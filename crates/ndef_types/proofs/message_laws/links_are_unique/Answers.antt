use Rattle.ndef_types.proofs.OneLinks.{one_links}
use Rattle.ndef_types.proofs.message_laws.links_are_unique.Goals as goal

pub returns : goal.returns
returns c = one_links c.one_meaning.ensures.once
