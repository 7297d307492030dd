use Rattle.std.proofs.Common.{rules}
use Rattle.ndef_lang.proofs.utf16.after_two.Goals as goal

pub returns-else-first-eq255 : goal.returns-else-first-eq255
returns-else-first-eq255 c = search rules
