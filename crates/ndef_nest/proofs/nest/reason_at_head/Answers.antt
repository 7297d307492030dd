use Rattle.std.proofs.Common.{rules}
use Rattle.ndef_nest.proofs.nest.reason_at_head.Goals as goal

pub returns-in-Collision : goal.returns-in-Collision
returns-in-Collision c = search rules
