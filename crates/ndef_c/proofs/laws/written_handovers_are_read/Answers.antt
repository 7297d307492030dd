use Rattle.ndef_c.proofs.HandoverValues.{requests_read, selects_read}
use Rattle.ndef_c.proofs.laws.written_handovers_are_read.Goals as goal

pub returns : goal.returns
returns c = let written = c.alternatives_are_exact.ensures.written in record { requests = requests_read written; selects = selects_read written }
