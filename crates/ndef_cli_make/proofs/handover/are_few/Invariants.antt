use Rattle.std.proofs.Common.{◌≡◌, ◌+◌, length}
use Rattle.ndef_cli_make.specs.CarrierWords.{references_left}
use Rattle.ndef_cli_make.proofs.handover.are_few.Given as goal

abbrev pub invariant-loop-more : goal.invariant-loop-more
invariant-loop-more l = length (references_left l.rest) + 256 ≡ length (references_left l.references) + l.room

abbrev pub decreases-loop-more : goal.decreases-loop-more
decreases-loop-more l = length (references_left l.rest)
