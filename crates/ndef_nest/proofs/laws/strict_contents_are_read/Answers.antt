use Rattle.ndef_nest.proofs.Contents.{strict_is_read, handovers_are_strict}
use Rattle.ndef_nest.proofs.laws.strict_contents_are_read.Goals as goal

pub returns-clause-strict : goal.returns-clause-strict
returns-clause-strict c = strict_is_read

pub returns-clause-handovers : goal.returns-clause-handovers
returns-clause-handovers c = handovers_are_strict
