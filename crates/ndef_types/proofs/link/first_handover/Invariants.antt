use Rattle.std.proofs.Common.{take}
use Rattle.ndef_types.specs.Contents.{Lack}
use Rattle.ndef_types.specs.Links.{IsHandoverRecord}
use Rattle.ndef_types.proofs.link.first_handover.Given as goal

abbrev pub invariant-loop-item : goal.invariant-loop-item
invariant-loop-item l = Lack IsHandoverRecord (take l.item-index l.records)
