use Rattle.std.proofs.Common.{rules}
use Rattle.ndef_format.proofs.reason.Reason.text.Goals as goal

pub returns-in-DoesNotFit-clause-value : goal.returns-in-DoesNotFit-clause-value
returns-in-DoesNotFit-clause-value c = search rules
