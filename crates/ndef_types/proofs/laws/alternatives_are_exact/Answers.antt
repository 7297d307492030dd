use Rattle.ndef_types.proofs.AlternativeLaws.{one_ac, each_ac, payload_written, acs_round_trip}
use Rattle.ndef_types.proofs.laws.alternatives_are_exact.Goals as goal

pub returns-clause-exact : goal.returns-clause-exact
returns-clause-exact c = record {
  one = one_ac;
  each = each_ac;
  round_trip = acs_round_trip;
}

pub returns-clause-written : goal.returns-clause-written
returns-clause-written c = payload_written
