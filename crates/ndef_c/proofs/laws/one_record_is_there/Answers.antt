use Rattle.ndef_c.proofs.Followed.{one_record}
use Rattle.ndef_c.proofs.laws.one_record_is_there.Goals as goal

pub returns : goal.returns
returns c = one_record
