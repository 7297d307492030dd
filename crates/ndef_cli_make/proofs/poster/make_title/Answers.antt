use Rattle.std.proofs.Common.{rules}
use Rattle.ndef_cli_make.proofs.poster.make_title.Goals as goal

pub returns-in-Some : goal.returns-in-Some
returns-in-Some c = search rules
