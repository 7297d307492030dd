use Rattle.ndef_message.proofs.Places.{refused_alike}
use Rattle.ndef_message.proofs.Reported.{one_refusal, one_judgement}
use Rattle.ndef_message.proofs.laws.answers_are_exact.Goals as goal

pub returns : goal.returns
returns g c = record {
  refusal = one_refusal c.ranks_are_apart.ensures c.next_fields_are_exact.ensures.one g.L.RecordLanguage.payloads g.L.RecordLanguage.reasons;
  judgement = one_judgement c.one_meaning.ensures.once c.ranks_are_apart.ensures c.next_fields_are_exact.ensures.one g.L.RecordLanguage.payloads g.L.RecordLanguage.reasons;
  local = refused_alike g.L.RecordLanguage.payloads g.L.RecordLanguage.reasons;
}
