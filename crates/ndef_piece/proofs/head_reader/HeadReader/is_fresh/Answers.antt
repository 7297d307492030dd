use Rattle.std.proofs.Common.{rules}
use Rattle.ndef_piece.proofs.head_reader.HeadReader.is_fresh.Goals as goal

pub returns : goal.returns
returns c = search rules
