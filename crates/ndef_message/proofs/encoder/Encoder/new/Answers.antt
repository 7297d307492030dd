use Rattle.std.specs.Prelude.{true}
use Rattle.ndef_message.proofs.MessageSteps.{begun_left}
use Rattle.ndef_message.proofs.encoder.Encoder.new.Goals as goal

pub returns : goal.returns
returns c = begun_left c.args.form c.args.size true c.args.message.now c.requires c.len-count.ensures.items.each
