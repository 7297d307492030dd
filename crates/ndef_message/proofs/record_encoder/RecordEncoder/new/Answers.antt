use Rattle.std.proofs.Common.{rules}
use Rattle.ndef_message.proofs.RecordBegins.{leaves_all}
use Rattle.ndef_message.proofs.RecordSteps.{some_size}
use Rattle.ndef_message.proofs.record_encoder.RecordEncoder.new.Goals as goal

pub returns-clause-all : goal.returns-clause-all
returns-clause-all c = leaves_all c.args.plan (search rules) (some_size c.args.plan.size c.requires)
