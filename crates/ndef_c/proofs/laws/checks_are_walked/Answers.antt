use Rattle.ndef_c.proofs.Walked.{checks_walked}
use Rattle.ndef_c.proofs.laws.checks_are_walked.Goals as goal

pub returns : goal.returns
returns g c = checks_walked g.L.RecordLanguage.payloads g.L.RecordLanguage.reasons
