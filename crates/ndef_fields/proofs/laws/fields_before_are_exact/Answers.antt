use Rattle.ndef_fields.proofs.FrontLaws.{front_fields_are_slices, front_fields_follow, one_front_report}
use Rattle.ndef_fields.proofs.SoFar.{fronts_are_so_far}
use Rattle.ndef_fields.proofs.laws.fields_before_are_exact.Goals as goal

pub returns : goal.returns
returns c = record { one = one_front_report; follow = front_fields_follow; slices = front_fields_are_slices; so_far = fronts_are_so_far }
