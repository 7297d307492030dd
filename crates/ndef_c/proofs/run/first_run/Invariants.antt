use Rattle.std.proofs.Common.{◌+◌, ◌≤◌, length}
use Rattle.ndef_piece.specs.Whole.{shown}
use Rattle.ndef_c.proofs.Followed.{Reading}
use Rattle.ndef_c.proofs.run.first_run.Given as goal

abbrev pub invariant-loop-piece : goal.invariant-loop-piece
invariant-loop-piece l = record {
  counted : l.payload + l.pieces + length l.piece.rest.now ≤ length l.bytes;
  reading : Reading (shown l.first) (shown l.piece) l.first.rest.now l.piece.rest.now l.payload l.pieces;
}

abbrev pub decreases-loop-piece : goal.decreases-loop-piece
decreases-loop-piece l = length l.piece.rest.now
