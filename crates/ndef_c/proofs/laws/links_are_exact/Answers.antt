use Rattle.ndef_c.proofs.Linked.{links_reported}
use Rattle.ndef_c.proofs.laws.links_are_exact.Goals as goal

pub returns : goal.returns
returns g c = links_reported c.one_meaning.ensures.once c.alternatives_are_exact.ensures.exact.one g.L.RecordLanguage.payloads g.L.RecordLanguage.reasons
