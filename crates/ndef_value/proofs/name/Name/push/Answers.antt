use Rattle.std.proofs.Common.{rules}
use Rattle.ndef_value.proofs.name.Name.push.Goals as goal

pub returns-clause-ok : goal.returns-clause-ok
returns-clause-ok c = search rules
