use Rattle.std.proofs.Common.{rules}
use Rattle.ndef_nest.proofs.phase.Body.span.Goals as goal

pub returns : goal.returns
returns c = search rules
