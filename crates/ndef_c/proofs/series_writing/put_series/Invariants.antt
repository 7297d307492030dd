use Rattle.std.proofs.Common.{◌<◌, ℕ, take}
use Rattle.ndef_c.specs.RecordList.{IsWritten, MayBeIn, series_items}
use Rattle.ndef_c.proofs.series_writing.put_series.Given as goal

abbrev pub invariant-loop-index : goal.invariant-loop-index
invariant-loop-index l = record {
  may : (k : ℕ) → k < l.index → MayBeIn l.record_list k;
  written : IsWritten l.fn.place (take l.index (series_items l.record_list)) l.fn.out l.out l.next;
}
