use Rattle.ndef_types.proofs.CarrierLaws.{one_carrier, each_carrier, carrier_written, carriers_round_trip}
use Rattle.ndef_types.proofs.laws.carriers_are_exact.Goals as goal

pub returns-clause-exact : goal.returns-clause-exact
returns-clause-exact c = record {
  one = one_carrier;
  each = each_carrier;
  round_trip = carriers_round_trip;
}

pub returns-clause-written : goal.returns-clause-written
returns-clause-written c = carrier_written
