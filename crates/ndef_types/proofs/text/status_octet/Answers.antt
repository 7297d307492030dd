use Rattle.std.proofs.Common.{rules}
use Rattle.ndef_types.proofs.text.status_octet.Goals as goal

pub returns-in-Utf16 : goal.returns-in-Utf16
returns-in-Utf16 c = search rules
