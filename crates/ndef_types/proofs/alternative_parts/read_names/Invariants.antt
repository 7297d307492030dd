use Rattle.ndef_types.proofs.AlternativeLemmas.{NamesLeft}
use Rattle.ndef_types.proofs.alternative_parts.read_names.Given as goal

abbrev pub invariant-loop-i : goal.invariant-loop-i
invariant-loop-i l = NamesLeft l.count l._i l.fn.octets l.left l.names.items
