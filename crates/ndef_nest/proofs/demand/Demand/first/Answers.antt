use Rattle.std.proofs.Common.{rules}
use Rattle.ndef_nest.proofs.demand.Demand.first.Goals as goal

pub returns-in-Request : goal.returns-in-Request
returns-in-Request c = search rules
