use Rattle.ndef_diagnostics.proofs.Nests.{least_nests, selects}
use Rattle.ndef_diagnostics.proofs.Truths.{lengths_hold}
use Rattle.ndef_diagnostics.proofs.laws.lengths_are_true.Goals as goal

pub returns-clause-payloads : goal.returns-clause-payloads
returns-clause-payloads c = lengths_hold

pub returns-clause-nests : goal.returns-clause-nests
returns-clause-nests c = least_nests

pub returns-clause-selects : goal.returns-clause-selects
returns-clause-selects c = selects
