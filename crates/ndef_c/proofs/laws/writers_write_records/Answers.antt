use Rattle.ndef_c.proofs.Writers.{writers_write}
use Rattle.ndef_c.proofs.laws.writers_write_records.Goals as goal

pub returns : goal.returns
returns c = writers_write c.steps_are_exact.ensures
