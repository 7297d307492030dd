use Rattle.ndef_c.proofs.OneCheck.{feeds_checked}
use Rattle.ndef_c.proofs.laws.feeds_are_checks.Goals as goal

pub returns : goal.returns
returns g c = feeds_checked g.L.RecordLanguage.payloads g.L.RecordLanguage.reasons c.views_are_exact.ensures.one c.views_are_exact.ensures.refused c.answers_are_exact.ensures.refusal
