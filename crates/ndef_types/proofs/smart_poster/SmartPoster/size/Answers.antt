use Rattle.std.proofs.Common.{rules}
use Rattle.ndef_types.proofs.smart_poster.SmartPoster.size.Goals as goal

pub returns : goal.returns
returns c = search rules
