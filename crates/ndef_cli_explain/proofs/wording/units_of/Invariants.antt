use Rattle.std.proofs.Common.{◌≡◌, ◌++◌, length}
use Rattle.ndef_cli_explain.specs.Wordings.{units_in}
use Rattle.ndef_cli_explain.proofs.wording.units_of.Given as goal

abbrev pub invariant-loop-rest : goal.invariant-loop-rest
invariant-loop-rest l = l.units.items ++ units_in l.little l.rest ≡ units_in l.little l.octets

abbrev pub decreases-loop-rest : goal.decreases-loop-rest
decreases-loop-rest l = length l.rest
