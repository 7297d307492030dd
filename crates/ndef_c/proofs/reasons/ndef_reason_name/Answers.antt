use Rattle.std.proofs.Common.{rules}
use Rattle.ndef_c.proofs.reasons.ndef_reason_name.Goals as goal

pub returns-clause-name : goal.returns-clause-name
returns-clause-name c = search rules
