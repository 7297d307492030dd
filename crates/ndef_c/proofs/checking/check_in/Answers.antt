use Rattle.std.proofs.Common.{rules}
use Rattle.ndef_c.proofs.checking.check_in.Goals as goal

pub returns-in-Err : goal.returns-in-Err
returns-in-Err g c = search rules
