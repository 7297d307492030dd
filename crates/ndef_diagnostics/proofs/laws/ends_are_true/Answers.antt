use Rattle.ndef_diagnostics.proofs.Ends.{chunk_missing, message_missing, record_missing}
use Rattle.ndef_diagnostics.proofs.laws.ends_are_true.Goals as goal

pub returns-clause-message : goal.returns-clause-message
returns-clause-message c = message_missing

pub returns-clause-next : goal.returns-clause-next
returns-clause-next c = record_missing

pub returns-clause-chunk : goal.returns-clause-chunk
returns-clause-chunk c = chunk_missing
