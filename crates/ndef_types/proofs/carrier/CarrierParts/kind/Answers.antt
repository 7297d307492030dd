use Rattle.ndef_types.proofs.CarrierLaws.{type_fits}
use Rattle.ndef_types.proofs.carrier.CarrierParts.kind.Goals as goal

pub split_counted-requires : goal.split_counted-requires
split_counted-requires c = rw c.after_first.ensures (type_fits c.self.inside.payload.now c.self.invariant)
