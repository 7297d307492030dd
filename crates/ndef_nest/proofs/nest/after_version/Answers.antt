use Rattle.std.proofs.Common.{rules}
use Rattle.ndef_nest.proofs.nest.after_version.Goals as goal

pub returns-else-byte-eq1-clause-reason : goal.returns-else-byte-eq1-clause-reason
returns-else-byte-eq1-clause-reason c = search rules
