use Rattle.std.proofs.Common.{rules}
use Rattle.ndef_message.proofs.endless_source.EndlessSourceSource.fill.Goals as goal

pub returns : goal.returns
returns c = search rules
