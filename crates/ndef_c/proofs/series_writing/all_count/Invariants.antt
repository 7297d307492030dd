use Rattle.std.proofs.Common.{◌≡◌, min, length, take}
use Rattle.ndef_c.specs.RecordList.{all_items}
use Rattle.ndef_c.proofs.series_writing.all_count.Given as goal

abbrev pub invariant-loop-record_list : goal.invariant-loop-record_list
invariant-loop-record_list l = l.count ≡ min (length (all_items (take l.record_list-index l.several))) 18446744073709551615
