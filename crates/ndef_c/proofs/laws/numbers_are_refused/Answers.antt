use Rattle.ndef_c.proofs.Numbered.{numbers_refused}
use Rattle.ndef_c.proofs.laws.numbers_are_refused.Goals as goal

pub returns : goal.returns
returns c = numbers_refused
