use Rattle.std.proofs.Common.{rules}
use Rattle.ndef_tool.proofs.printing.outcome_line.Goals as goal

pub returns-in-Show : goal.returns-in-Show
returns-in-Show c = search rules
