use Rattle.std.proofs.Common.{rules}
use Rattle.ndef_piece.proofs.header.header_tnf.Goals as goal

pub returns : goal.returns
returns c = search rules
