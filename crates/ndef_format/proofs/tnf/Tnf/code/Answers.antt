use Rattle.std.proofs.Common.{rules}
use Rattle.ndef_format.proofs.tnf.Tnf.code.Goals as goal

pub returns-in-Unchanged-clause-value : goal.returns-in-Unchanged-clause-value
returns-in-Unchanged-clause-value c = search rules
