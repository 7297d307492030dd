use Rattle.std.proofs.Common.{rules}
use Rattle.ndef_types.proofs.uri.Uri.decode.Goals as goal

pub returns : goal.returns
returns c = search rules
