use Rattle.std.proofs.Common.{rules}
use Rattle.ndef_c.proofs.limits.ndef_default_limits.Goals as goal

pub returns-clause-limits : goal.returns-clause-limits
returns-clause-limits c = search rules
