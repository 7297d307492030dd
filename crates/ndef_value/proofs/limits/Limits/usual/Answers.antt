use Rattle.std.proofs.Common.{rules}
use Rattle.ndef_value.proofs.limits.Limits.usual.Goals as goal

pub returns : goal.returns
returns c = search rules
