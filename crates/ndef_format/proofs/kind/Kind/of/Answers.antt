use Rattle.std.proofs.Common.{rules}
use Rattle.ndef_format.proofs.kind.Kind.of.Goals as goal

pub returns-in-len1 : goal.returns-in-len1
returns-in-len1 c = search rules

pub returns-in-len2 : goal.returns-in-len2
returns-in-len2 c = search rules

pub returns-in-len3 : goal.returns-in-len3
returns-in-len3 c = search rules
