use Rattle.std.proofs.Common.{◌≡◌, ◌≤◌, List, length}
use Rattle.std.specs.Prelude.{filter}
use Rattle.ndef_format.specs.Messages.{Item}
use Rattle.ndef_c.specs.Arrays.{EachAt, set_over}
use Rattle.ndef_c.specs.RecordQuery.{has_type}
use Rattle.ndef_c.proofs.Ahead.{Ahead}
use Rattle.ndef_c.proofs.query.tell_all.Given as goal

abbrev pub invariant-loop-found : goal.invariant-loop-found
invariant-loop-found g l = record {
  items : List Item;
  records : g.S.RecordQuery.has_records l.fn.query items;
  same : l.found-iterator.bytes.now ≡ l.message;
  done : List Item;
  ahead : Ahead items l.message l.found-iterator done;
  reported : List g.row.S-Given.Denot;
  are : EachAt (g.S.RecordQuery.is_given l.fn.query items) 0 reported;
  count : length reported ≡ length (filter (has_type g.S.Expected.expected) done);
  filled : l.array ≡ set_over reported l.fn.array;
  index : l.index ≡ length reported;
  counted : l.index ≤ l.found-iterator.at;
}
