use Rattle.std.proofs.Common.{rules}
use Rattle.ndef_types.proofs.carrier.Carrier.new.Goals as goal

pub returns : goal.returns
returns c = search rules
