use Rattle.std.proofs.Common.{rules}
use Rattle.ndef_types.proofs.text.TextPartialEq.eq.Goals as goal

pub returns-then-same_parts : goal.returns-then-same_parts
returns-then-same_parts c = search rules
