use Rattle.ndef_lang.proofs.Rewritten.{canonical_is_accepted}
use Rattle.ndef_lang.proofs.laws.canonical_is_accepted.Goals as goal

pub returns : goal.returns
returns g c = canonical_is_accepted c.canonical_is_a_spelling.ensures g.L.RecordLanguage.payloads
