use Rattle.std.proofs.Common.{◌+◌, ◌*◌, ◌≤◌, length}
use Rattle.ndef_diagnostics.proofs.KeepsWhole.{KeepsWhole}
use Rattle.ndef_diagnostics.proofs.wholes.whole_pieces.Given as goal

abbrev pub invariant-loop-piece : goal.invariant-loop-piece
invariant-loop-piece l = record {
  keeps : KeepsWhole l.bytes l.rest l.count l.records l.ends_in_chunk;
  few : 2 * l.count + length l.rest ≤ length l.bytes;
  fewer : l.records ≤ l.count;
}

abbrev pub decreases-loop-piece : goal.decreases-loop-piece
decreases-loop-piece l = length l.rest
