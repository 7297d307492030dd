use Rattle.std.proofs.Common.{rules}
use Rattle.ndef_format.proofs.reason.Reason.rank.Goals as goal

pub returns-in-CollisionMissing-clause-value : goal.returns-in-CollisionMissing-clause-value
returns-in-CollisionMissing-clause-value c = search rules
