use Rattle.ndef_diagnostics.proofs.Hints.{one_hint}
use Rattle.ndef_diagnostics.proofs.laws.hints_are_one.Goals as goal

pub returns : goal.returns
returns c = one_hint
