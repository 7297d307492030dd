use Rattle.ndef_lang.proofs.Longest.{greatest_length_is_reached}
use Rattle.ndef_lang.proofs.laws.greatest_length_is_reached.Goals as goal

pub returns-clause-reached : goal.returns-clause-reached
returns-clause-reached g c = greatest_length_is_reached g.L.RecordLanguage.payloads g.met.L.RecordLanguage.others
