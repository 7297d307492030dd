use Rattle.std.proofs.Common.{◌≡◌, map}
use Rattle.ndef_format.specs.Messages.{run_record}
use Rattle.ndef_types.specs.Links.{alternatives}
use Rattle.ndef_types.proofs.link.has_alternative.Given as goal

abbrev pub invariant-loop-item : goal.invariant-loop-item
invariant-loop-item l = alternatives (map run_record l.item-iterator) ≡ alternatives (map run_record l.fn.handover.runs)
