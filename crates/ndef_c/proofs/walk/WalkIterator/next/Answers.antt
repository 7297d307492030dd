use Rattle.std.proofs.Common.{refl}
use Rattle.ndef_c.proofs.Places.{bit_reported}
use Rattle.ndef_c.proofs.walk.WalkIterator.next.Goals as goal

pub returns-clause-steps : goal.returns-clause-steps
returns-clause-steps c = let x = c.in_ok-found.ensures.some in record { going = c.if-self.false; record_is = x; same = refl; next = refl; ends = bit_reported _ _ x.last }
