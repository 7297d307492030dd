use Rattle.ndef_message.proofs.Calls.{steps_are_exact}
use Rattle.ndef_message.proofs.encoding_laws.steps_are_exact.Goals as goal

pub returns : goal.returns
returns c = steps_are_exact
