use Rattle.std.proofs.Common.{rules}
use Rattle.ndef_message.proofs.heads.is_short.Goals as goal

pub returns-in-Short : goal.returns-in-Short
returns-in-Short c = search rules
