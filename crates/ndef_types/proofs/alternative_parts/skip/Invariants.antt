use Rattle.ndef_types.proofs.AlternativeLemmas.{Skipped}
use Rattle.ndef_types.proofs.alternative_parts.skip.Given as goal

abbrev pub invariant-loop-i : goal.invariant-loop-i
invariant-loop-i l = Skipped l.count l._i l.fn.octets l.left
