use Rattle.std.proofs.Common.{rules}
use Rattle.ndef_piece.proofs.whole.cut.Goals as goal

pub returns-then-bytes-count-clause-none : goal.returns-then-bytes-count-clause-none
returns-then-bytes-count-clause-none c = search rules
