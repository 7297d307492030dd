use Rattle.ndef_value.proofs.Unique.{one_meaning, strict_is_read}
use Rattle.ndef_value.proofs.laws.one_meaning.Goals as goal

pub returns : goal.returns
returns c = record { once = one_meaning; strict = strict_is_read }
