use Rattle.std.proofs.Common.{rules}
use Rattle.ndef_types.proofs.nested.encode_after.Goals as goal

pub returns-clause-ok : goal.returns-clause-ok
returns-clause-ok c = search rules
