use Rattle.std.proofs.Common.{rules}
use Rattle.ndef_value.proofs.bytes.Bytes.from_slice.Goals as goal

pub returns : goal.returns
returns c = search rules
