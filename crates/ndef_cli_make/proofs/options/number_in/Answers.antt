use Rattle.ndef_cli.specs.OptionLaws.{number_read, number_unread}
use Rattle.ndef_cli_make.proofs.options.number_in.Goals as goal

pub returns-in-Ok : goal.returns-in-Ok
returns-in-Ok c = number_read c.args.word.now c.in-Ok.number c.in-Ok.ensures.value.0

pub returns-in-Err : goal.returns-in-Err
returns-in-Err c = number_unread c.args.word.now c.in-Err.ensures.value.0
