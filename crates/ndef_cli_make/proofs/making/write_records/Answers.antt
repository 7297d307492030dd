use Rattle.std.proofs.Common.{rules}
use Rattle.ndef_cli_make.proofs.making.write_records.Goals as goal

pub returns-in-Ok : goal.returns-in-Ok
returns-in-Ok c = search rules
