use Rattle.ndef_types.proofs.AlternativeLemmas.{ac_parts}
use Rattle.ndef_types.proofs.alternative_parts.AlternativeParts.after_reference.Goals as goal

pub split_counted-requires : goal.split_counted-requires
split_counted-requires c = rw c.after_first.ensures (ac_parts c.self.inside.payload.now c.self.invariant).room

pub returns-clause-auxiliary : goal.returns-clause-auxiliary
returns-clause-auxiliary c = rw (c.split_counted.ensures.rest, c.after_first.ensures) (ac_parts c.self.inside.payload.now c.self.invariant).auxiliary
