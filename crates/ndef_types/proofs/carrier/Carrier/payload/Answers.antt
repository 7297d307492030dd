use Rattle.std.proofs.Common.{rules}
use Rattle.ndef_types.proofs.carrier.Carrier.payload.Goals as goal

pub returns : goal.returns
returns c = search rules
