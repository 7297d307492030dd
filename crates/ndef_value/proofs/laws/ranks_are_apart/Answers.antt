use Rattle.ndef_value.proofs.Ranks.{ranks_are_apart}
use Rattle.ndef_value.proofs.laws.ranks_are_apart.Goals as goal

pub returns : goal.returns
returns c = ranks_are_apart
