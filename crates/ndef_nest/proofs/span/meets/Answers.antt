use Rattle.std.proofs.Common.{rules}
use Rattle.ndef_nest.proofs.span.meets.Goals as goal

pub returns : goal.returns
returns c = search rules
