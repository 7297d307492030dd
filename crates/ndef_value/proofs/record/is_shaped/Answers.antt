use Rattle.std.proofs.Common.{rules}
use Rattle.ndef_value.proofs.record.is_shaped.Goals as goal

pub returns-in-Unknown : goal.returns-in-Unknown
returns-in-Unknown c = search rules
