use Rattle.ndef_format.specs.Records.{AreOctets}
use Rattle.ndef_format.specs.Reasons.{NoReason}
use Rattle.ndef_lang.proofs.PlaceLemmas.{no_refusal}
use Rattle.ndef_lang.proofs.laws.opaque_payloads.Goals as goal

pub returns-clause-taken : goal.returns-clause-taken
returns-clause-taken c tnf name records profile s place reason = no_refusal AreOctets (λ before octet. NoReason) s place reason
