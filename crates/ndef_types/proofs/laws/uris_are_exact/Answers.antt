use Rattle.ndef_types.proofs.UriLaws.{one_uri, each_uri, one_payload, uri_written, uris_round_trip}
use Rattle.ndef_types.proofs.laws.uris_are_exact.Goals as goal

pub returns-clause-one : goal.returns-clause-one
returns-clause-one c = one_uri

pub returns-clause-each : goal.returns-clause-each
returns-clause-each c = each_uri

pub returns-clause-payload : goal.returns-clause-payload
returns-clause-payload c = one_payload

pub returns-clause-round_trip : goal.returns-clause-round_trip
returns-clause-round_trip c = uris_round_trip

pub returns-clause-written : goal.returns-clause-written
returns-clause-written c = uri_written
