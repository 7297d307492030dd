use Rattle.std.proofs.Common.{rules}
use Rattle.ndef_piece.proofs.conditions.header_reason.Goals as goal

pub returns-then-ends : goal.returns-then-ends
returns-then-ends c = search rules

pub returns-else-not-chunked : goal.returns-else-not-chunked
returns-else-not-chunked c = search rules
