use Rattle.std.proofs.Common.{rules}
use Rattle.ndef_types.proofs.alternative.Ac.new.Goals as goal

pub returns-then-len-gt255 : goal.returns-then-len-gt255
returns-then-len-gt255 c = search rules
