use Rattle.ndef_diagnostics.proofs.Truths.{length_mismatches_true}
use Rattle.ndef_diagnostics.proofs.laws.length_mismatches_are_true.Goals as goal

pub returns : goal.returns
returns c = length_mismatches_true
