use Rattle.std.proofs.Common.{rules}
use Rattle.ndef_types.proofs.CarrierLaws.{type_room}
use Rattle.ndef_types.proofs.carrier.CarrierParts.to_value.Goals as goal

pub split_at-requires : goal.split_at-requires
split_at-requires c = type_room c.self.inside.payload.now c.from.result c.self.invariant c.from.ensures

pub new-requires : goal.new-requires
new-requires c = search rules
