use Rattle.std.proofs.Common.{rules}
use Rattle.ndef_types.proofs.request.Request.collision.Goals as goal

pub returns : goal.returns
returns c = search rules
