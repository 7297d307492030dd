use Rattle.std.proofs.Common.{◌≡◌, ◌+◌, length, map, drop}
use Rattle.ndef_format.specs.Messages.{run_record}
use Rattle.ndef_types.specs.Ids.{FindsSome}
use Rattle.ndef_types.proofs.ids.ViewOuter.ids.Given as goal

abbrev pub invariant-loop-item : goal.invariant-loop-item
invariant-loop-item l =
    let items = map run_record l.fn.self.runs in
    record {
      counted : l.index + length l.item-iterator ≡ length l.fn.self.runs;
      left : drop l.index items ≡ map run_record l.item-iterator;
      found : FindsSome items l.index l.ids;
    }
