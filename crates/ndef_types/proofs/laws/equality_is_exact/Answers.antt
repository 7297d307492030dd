use Rattle.ndef_types.proofs.EqualityLemmas.{ac-Decides, text-Decides}
use Rattle.ndef_types.proofs.laws.equality_is_exact.Goals as goal

pub returns-clause-texts : goal.returns-clause-texts
returns-clause-texts c = text-Decides

pub returns-clause-alternatives : goal.returns-clause-alternatives
returns-clause-alternatives c = ac-Decides
