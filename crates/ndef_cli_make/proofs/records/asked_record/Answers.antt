use Rattle.std.proofs.Common.{rules}
use Rattle.ndef_cli_make.proofs.records.asked_record.Goals as goal

pub returns-in-Some-Record : goal.returns-in-Some-Record
returns-in-Some-Record c = search rules
