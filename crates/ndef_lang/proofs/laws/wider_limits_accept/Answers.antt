use Rattle.ndef_lang.proofs.Wider.{wider_limits_accept}
use Rattle.ndef_lang.proofs.laws.wider_limits_accept.Goals as goal

pub returns : goal.returns
returns g c = wider_limits_accept g.L.RecordLanguage.payloads g.met.L.RecordLanguage.stay
