use Rattle.std.proofs.Common.{rules}
use Rattle.ndef_c.proofs.numbers.ndef_write_collision.Goals as goal

pub returns-clause-payload : goal.returns-clause-payload
returns-clause-payload c = search rules
