use Rattle.std.proofs.Common.{rules}
use Rattle.ndef_c.proofs.error.number_of.Goals as goal

pub returns-in-2-len4 : goal.returns-in-2-len4
returns-in-2-len4 c = search rules
