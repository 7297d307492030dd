use Rattle.ndef_value.proofs.Canonical.{canonical_is_flat}
use Rattle.ndef_value.proofs.laws.canonical_is_a_spelling.Goals as goal

pub returns : goal.returns
returns c = canonical_is_flat
