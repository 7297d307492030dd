use Rattle.std.proofs.Common.{rules}
use Rattle.ndef_c.proofs.carrier.may_be_carrier.Goals as goal

pub returns-then-kind-lt256 : goal.returns-then-kind-lt256
returns-then-kind-lt256 c = search rules
