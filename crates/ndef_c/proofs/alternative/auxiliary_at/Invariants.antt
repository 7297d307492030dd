use Rattle.std.proofs.Common.{◌≤◌, ◌+◌, get_or}
use Rattle.ndef_c.proofs.Alternatives.{NamesAt}
use Rattle.ndef_c.proofs.alternative.auxiliary_at.Given as goal

abbrev pub invariant-loop-before : goal.invariant-loop-before
invariant-loop-before l = (l._before ≤ l.index) × NamesAt l.payload (get_or l.payload (2 + get_or l.payload 1 0) 0) l.at l._before
