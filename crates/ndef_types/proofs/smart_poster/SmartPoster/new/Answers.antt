use Rattle.std.proofs.Common.{rules}
use Rattle.ndef_types.proofs.smart_poster.SmartPoster.new.Goals as goal

pub returns-in-None : goal.returns-in-None
returns-in-None c = search rules
