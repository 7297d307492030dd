use Rattle.std.proofs.Common.{rules}
use Rattle.ndef_piece.proofs.bounds.range.Goals as goal

pub returns-else-tnf_number-eq0-clause-range : goal.returns-else-tnf_number-eq0-clause-range
returns-else-tnf_number-eq0-clause-range c = search rules
