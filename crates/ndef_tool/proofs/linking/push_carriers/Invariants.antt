use Rattle.std.proofs.Common.{length}
use Rattle.ndef_tool.proofs.Counting.{IsLinking}
use Rattle.ndef_tool.proofs.linking.push_carriers.Given as goal

abbrev pub invariant-loop-rest : goal.invariant-loop-rest
invariant-loop-rest l = IsLinking l.message l.members l.rest l.initial.lines l.lines l.number

abbrev pub decreases-loop-rest : goal.decreases-loop-rest
decreases-loop-rest l = length l.rest
