use Rattle.std.proofs.Common.{rules}
use Rattle.ndef_c.proofs.numbers.ndef_write_size.Goals as goal

pub returns : goal.returns
returns c = search rules
