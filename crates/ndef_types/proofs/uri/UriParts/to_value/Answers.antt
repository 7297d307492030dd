use Rattle.std.proofs.Common.{arith}
use Rattle.std.proofs.lemmas.Grind.{common_steps}
use Rattle.ndef_types.proofs.uri.UriParts.to_value.Goals as goal

pub returns : goal.returns
returns c = grind (arith, common_steps)
