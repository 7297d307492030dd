use Rattle.ndef_diagnostics.proofs.RecordTruths.{collisions_true, least_records, missing_true, records_true, uris_true}
use Rattle.ndef_diagnostics.proofs.laws.sizes_are_true.Goals as goal

pub returns-clause-least : goal.returns-clause-least
returns-clause-least c = least_records

pub returns-clause-records : goal.returns-clause-records
returns-clause-records c = records_true

pub returns-clause-uris : goal.returns-clause-uris
returns-clause-uris c = uris_true

pub returns-clause-collisions : goal.returns-clause-collisions
returns-clause-collisions c = collisions_true

pub returns-clause-missing : goal.returns-clause-missing
returns-clause-missing c = missing_true
