use Rattle.std.proofs.Common.{List, Option, ℕ, length}
use Rattle.ndef_tool.specs.Members.{IsFirstMember}
use Rattle.ndef_tool.proofs.nested.first_of.Given as goal

abbrev pub invariant-loop-rest : goal.invariant-loop-rest
invariant-loop-rest l = (o : Option (List ℕ)) → IsFirstMember l.kind l.rest o → IsFirstMember l.kind l.members o

abbrev pub decreases-loop-rest : goal.decreases-loop-rest
decreases-loop-rest l = length l.rest
