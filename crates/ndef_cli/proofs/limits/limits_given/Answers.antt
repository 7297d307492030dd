use Rattle.std.proofs.Common.{rules}
use Rattle.ndef_cli.proofs.limits.limits_given.Goals as goal

pub returns : goal.returns
returns c = search rules
