use Rattle.std.proofs.Common.{rules}
use Rattle.ndef_message.proofs.encoding.encoded_length.Goals as goal

pub returns-in-Ok : goal.returns-in-Ok
returns-in-Ok c = search rules
