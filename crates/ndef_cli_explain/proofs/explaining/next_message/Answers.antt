use Rattle.ndef_cli_explain.proofs.Places.{follows}
use Rattle.ndef_cli_explain.proofs.explaining.next_message.Goals as goal

pub returns-clause-follow : goal.returns-clause-follow
returns-clause-follow c = follows c.args.limits c.args.bytes.now c.fields.result c.fields_are_exact.ensures.follow c.fields.ensures.reported
