use Rattle.ndef_types.proofs.ErrorLaws.{one_error, each_error, error_written, errors_round_trip}
use Rattle.ndef_types.proofs.laws.errors_are_exact.Goals as goal

pub returns-clause-exact : goal.returns-clause-exact
returns-clause-exact c = record {
  one = one_error;
  each = each_error;
  round_trip = errors_round_trip;
}

pub returns-clause-written : goal.returns-clause-written
returns-clause-written c = error_written
