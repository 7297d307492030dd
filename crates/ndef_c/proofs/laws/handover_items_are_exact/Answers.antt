use Rattle.ndef_c.proofs.ReferenceLaws.{links_are, references_are}
use Rattle.ndef_c.proofs.laws.handover_items_are_exact.Goals as goal

pub returns : goal.returns
returns c = let one = c.alternatives_are_exact.ensures.exact.one in record { references = references_are one; links = links_are one }
