use Rattle.std.proofs.Common.{ℕ, List, length}
use Rattle.ndef_c.specs.Texts.{AreSpelled}
use Rattle.ndef_c.proofs.Characters.{Putting}
use Rattle.ndef_c.proofs.utf16.put_in_utf8.Given as goal

abbrev pub invariant-loop-rest : goal.invariant-loop-rest
invariant-loop-rest l = (cs : List ℕ) → AreSpelled l.little cs l.octets → Putting l.little cs l.rest l.fn.out l.out

abbrev pub decreases-loop-rest : goal.decreases-loop-rest
decreases-loop-rest l = length l.rest
