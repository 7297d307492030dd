-- A message that is accepted within some limits is accepted within wider ones.
use Rattle.std.proofs.Common.{arith}
use Rattle.ndef_format.specs.Accepted.{IsMember}
use Rattle.ndef_format.specs.Payloads.{Sets}
use Rattle.ndef_format.specs.Laws.{TypesStay, WiderAccept}
use Rattle.ndef_value.specs.ListLaws.{all_more}
use Rattle.ndef_value.specs.ProfileLaws.{spelling_for_more}

pub wider_limits_accept : (set : Sets) → TypesStay set → WiderAccept set
wider_limits_accept set stay limits wider m bytes w d = record {
  runs = d.runs;
  spelling = spelling_for_more limits.profile wider.profile d.runs m bytes w.profile d.spelling;
  within = record {
    few_records = (let few = d.within.few_records in let more = w.records in omega arith);
    few_pieces = all_more _ _ d.runs (λ r h. let more = w.pieces in omega arith) d.within.few_pieces;
    small = all_more _ _ d.runs (λ r h. let more = w.payload in omega arith) d.within.small;
  };
  members = all_more (IsMember set limits) (IsMember set wider) m
      (λ i h. stay i.tnf i.kind limits.records wider.records limits.profile wider.profile i.payload w.records w.profile h) d.members;
}
