use Rattle.ndef_value.proofs.Shortest.{canonical_is_shortest}
use Rattle.ndef_value.proofs.laws.canonical_is_shortest.Goals as goal

pub returns : goal.returns
returns c = canonical_is_shortest
