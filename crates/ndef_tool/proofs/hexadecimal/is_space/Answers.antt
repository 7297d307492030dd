use Rattle.std.proofs.Common.{rules}
use Rattle.ndef_tool.proofs.hexadecimal.is_space.Goals as goal

pub returns-else-byte-eq13 : goal.returns-else-byte-eq13
returns-else-byte-eq13 c = search rules
