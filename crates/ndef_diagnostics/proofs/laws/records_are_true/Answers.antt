use Rattle.ndef_diagnostics.proofs.WrongRecords.{collisions_missing, uris_again, uris_missing}
use Rattle.ndef_diagnostics.proofs.laws.records_are_true.Goals as goal

pub returns-clause-missing : goal.returns-clause-missing
returns-clause-missing c = uris_missing

pub returns-clause-again : goal.returns-clause-again
returns-clause-again c = uris_again

pub returns-clause-collision : goal.returns-clause-collision
returns-clause-collision c = collisions_missing
