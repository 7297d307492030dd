use Rattle.std.proofs.Common.{take}
use Rattle.ndef_types.specs.Contents.{IsOfKind, Lack}
use Rattle.ndef_types.proofs.contents.first_of.Given as goal

abbrev pub invariant-loop-item : goal.invariant-loop-item
invariant-loop-item l = Lack (IsOfKind l.table l.kind) (take l.item-index l.records)
