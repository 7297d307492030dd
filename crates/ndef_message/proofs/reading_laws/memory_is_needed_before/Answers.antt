use Rattle.ndef_message.proofs.Needing.{first_byte_needs_none, memory_is_needed_before}
use Rattle.ndef_message.proofs.reading_laws.memory_is_needed_before.Goals as goal

pub returns : goal.returns
returns g c = record {
  before = memory_is_needed_before g.L.RecordLanguage.payloads g.L.RecordLanguage.reasons;
  first = first_byte_needs_none g.L.RecordLanguage.payloads g.L.RecordLanguage.reasons;
}
