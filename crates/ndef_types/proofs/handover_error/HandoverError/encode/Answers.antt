use Rattle.std.proofs.Common.{rules}
use Rattle.ndef_types.proofs.handover_error.HandoverError.encode.Goals as goal

pub returns-clause-ok : goal.returns-clause-ok
returns-clause-ok c = search rules
