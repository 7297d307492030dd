use Rattle.std.proofs.Common.{◌-◌, length}
use Rattle.ndef_cli_explain.proofs.Numbering.{KeepsOn}
use Rattle.ndef_cli_explain.proofs.numbered.record_of.Given as goal

abbrev pub invariant-loop-rest : goal.invariant-loop-rest
invariant-loop-rest l = KeepsOn l.limits l.input l.rest (l.number - 1) l.left

abbrev pub decreases-loop-rest : goal.decreases-loop-rest
decreases-loop-rest l = length l.rest
