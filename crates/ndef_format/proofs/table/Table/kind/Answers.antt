use Rattle.std.proofs.Common.{rules}
use Rattle.ndef_format.proofs.table.Table.kind.Goals as goal

pub returns : goal.returns
returns c = search rules
