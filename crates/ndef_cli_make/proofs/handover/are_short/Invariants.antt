use Rattle.std.proofs.Common.{◌≡◌, length}
use Rattle.ndef_cli_make.specs.CarrierWords.{references_left}
use Rattle.ndef_cli_make.specs.Handovers.{are_short}
use Rattle.ndef_cli_make.proofs.handover.are_short.Given as goal

abbrev pub invariant-loop-reference : goal.invariant-loop-reference
invariant-loop-reference l = are_short (references_left l.rest) ≡ are_short (references_left l.references)

abbrev pub decreases-loop-reference : goal.decreases-loop-reference
decreases-loop-reference l = length (references_left l.rest)
