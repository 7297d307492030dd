use Rattle.std.proofs.Common.{◌≡◌, length}
use Rattle.ndef_cli_make.specs.MayBeWritten.{have_twins}
use Rattle.ndef_cli_make.proofs.not_writable.have_twins.Given as goal

abbrev pub invariant-loop-rest : goal.invariant-loop-rest
invariant-loop-rest l = have_twins l.rest ≡ have_twins l.records

abbrev pub decreases-loop-rest : goal.decreases-loop-rest
decreases-loop-rest l = length l.rest
