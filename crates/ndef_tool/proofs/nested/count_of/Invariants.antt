use Rattle.std.proofs.Common.{length}
use Rattle.ndef_tool.proofs.Counting.{IsCounting}
use Rattle.ndef_tool.proofs.nested.count_of.Given as goal

abbrev pub invariant-loop-rest : goal.invariant-loop-rest
invariant-loop-rest l = IsCounting l.kind l.members l.rest l.count

abbrev pub decreases-loop-rest : goal.decreases-loop-rest
decreases-loop-rest l = length l.rest
