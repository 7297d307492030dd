use Rattle.std.proofs.Common.{true, take}
use Rattle.std.specs.List.{All}
use Rattle.ndef_c.specs.Buffers.{Puts}
use Rattle.ndef_c.specs.RecordList.{IsSeries, IsWritten, all_items}
use Rattle.ndef_c.specs.declared.out.Out.{Out}
use Rattle.ndef_c.proofs.series_writing.put_message.Given as goal

abbrev pub invariant-loop-record_list : goal.invariant-loop-record_list
invariant-loop-record_list l = record {
  each : All IsSeries (take l.record_list-index l.several);
  start : Out;
  front : Puts l.fn.out l.front start;
  written : IsWritten (record { left = l.fn.count; first = true }) (all_items (take l.record_list-index l.several)) start l.out l.next;
}
