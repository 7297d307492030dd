use Rattle.std.proofs.Common.{◌≡◌, length}
use Rattle.std.specs.List.{find}
use Rattle.ndef_cli_make.specs.CarrierWords.{references_left}
use Rattle.ndef_cli_make.specs.References.{is_missing}
use Rattle.ndef_cli_make.proofs.references.find_each.Given as goal

abbrev pub invariant-loop-reference : goal.invariant-loop-reference
invariant-loop-reference l = find (is_missing l.records) (references_left l.rest) ≡ find (is_missing l.records) (references_left l.references)

abbrev pub decreases-loop-reference : goal.decreases-loop-reference
decreases-loop-reference l = length (references_left l.rest)
