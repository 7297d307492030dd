use Rattle.std.proofs.Common.{rules}
use Rattle.ndef_piece.proofs.head_reader.HeadReader.whole_head.Goals as goal

pub returns-clause-fresh : goal.returns-clause-fresh
returns-clause-fresh c = search rules
