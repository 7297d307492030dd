use Rattle.std.proofs.Common.{◌≡◌, ◌+◌, List, length}
use Rattle.std.specs.Prelude.{filter}
use Rattle.ndef_format.specs.Messages.{Item}
use Rattle.ndef_c.specs.RecordQuery.{has_type}
use Rattle.ndef_c.proofs.Ahead.{Ahead}
use Rattle.ndef_c.proofs.query.give_one.Given as goal

abbrev pub invariant-loop-found : goal.invariant-loop-found
invariant-loop-found g l = record {
  same : l.found-iterator.bytes.now ≡ l.message;
  kept : l.out ≡ l.fn.out;
  ahead : (items : List Item) → g.S.RecordQuery.has_records l.fn.query items
      → (done : List Item) × Ahead items l.message l.found-iterator done × (length (filter (has_type g.S.Expected.expected) done) + l.left ≡ l.fn.index);
}
