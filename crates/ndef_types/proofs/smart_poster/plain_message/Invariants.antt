use Rattle.std.proofs.Common.{◌≡◌, map, take}
use Rattle.ndef_types.specs.Posters.{plain}
use Rattle.ndef_types.proofs.smart_poster.plain_message.Given as goal

abbrev pub invariant-loop-item : goal.invariant-loop-item
invariant-loop-item l = l.records.items ≡ map plain (take l.item-index l.message)
