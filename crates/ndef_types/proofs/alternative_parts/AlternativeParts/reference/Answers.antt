use Rattle.ndef_types.proofs.AlternativeLemmas.{ac_parts}
use Rattle.ndef_types.proofs.alternative_parts.AlternativeParts.reference.Goals as goal

pub split_counted-requires : goal.split_counted-requires
split_counted-requires c = rw c.after_first.ensures (ac_parts c.self.inside.payload.now c.self.invariant).room
