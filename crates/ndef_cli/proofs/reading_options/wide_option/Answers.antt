use Rattle.std.proofs.Common.{rules}
use Rattle.ndef_cli.proofs.reading_options.wide_option.Goals as goal

pub returns-clause-rule : goal.returns-clause-rule
returns-clause-rule c = search rules
