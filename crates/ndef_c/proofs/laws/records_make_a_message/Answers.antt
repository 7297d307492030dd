use Rattle.std.proofs.Common.{true}
use Rattle.ndef_c.proofs.Records.{records_joined}
use Rattle.ndef_c.proofs.laws.records_make_a_message.Goals as goal

pub returns : goal.returns
returns c = records_joined true
