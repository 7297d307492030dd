use Rattle.std.proofs.Common.{rules}
use Rattle.ndef_message.proofs.failing_sink.FailingSink.most.Goals as goal

pub returns-in-Some-clause-value : goal.returns-in-Some-clause-value
returns-in-Some-clause-value c = search rules
