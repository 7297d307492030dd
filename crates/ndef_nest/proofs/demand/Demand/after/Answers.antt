use Rattle.std.proofs.Common.{rules}
use Rattle.ndef_nest.proofs.demand.Demand.after.Goals as goal

pub returns-in-OneUri-Uri : goal.returns-in-OneUri-Uri
returns-in-OneUri-Uri c = search rules
