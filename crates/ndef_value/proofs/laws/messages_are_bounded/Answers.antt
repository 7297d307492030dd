use Rattle.ndef_value.proofs.Bounds.{messages_are_bounded}
use Rattle.ndef_value.proofs.laws.messages_are_bounded.Goals as goal

pub returns : goal.returns
returns c = messages_are_bounded
