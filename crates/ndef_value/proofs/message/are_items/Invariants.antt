use Rattle.std.proofs.Common.{take}
use Rattle.std.specs.List.{AllByRecursion}
use Rattle.ndef_format.specs.Canonical.{IsItem}
use Rattle.ndef_value.proofs.message.are_items.Given as goal

abbrev pub invariant-loop-item : goal.invariant-loop-item
invariant-loop-item l = AllByRecursion IsItem (take l.item-index l.records)
