use Rattle.ndef_fields.proofs.FrontLaws.{one_payload_report, payload_fields_are_slices, payload_fields_follow, payload_reported_so}
use Rattle.ndef_fields.proofs.laws.payload_fields_are_exact.Goals as goal

pub returns : goal.returns
returns c = record {
  one = one_payload_report;
  follow = payload_fields_follow;
  slices = payload_fields_are_slices;
  reported = payload_reported_so;
}
