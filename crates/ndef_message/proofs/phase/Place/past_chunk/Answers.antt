use Rattle.std.proofs.Common.{rules}
use Rattle.ndef_message.proofs.phase.Place.past_chunk.Goals as goal

pub returns : goal.returns
returns c = search rules
