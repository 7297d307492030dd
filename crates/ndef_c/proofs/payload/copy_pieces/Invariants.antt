use Rattle.std.proofs.Common.{ℕ, List}
use Rattle.ndef_format.specs.Records.{Piece, Run, pieces}
use Rattle.ndef_format.specs.Messages.{payload_of}
use Rattle.ndef_c.specs.Buffers.{Puts}
use Rattle.ndef_c.specs.Walks.{BeginsWithRun}
use Rattle.ndef_c.proofs.PieceParts.{Passing}
use Rattle.ndef_c.proofs.payload.copy_pieces.Given as goal

abbrev pub invariant-loop-part : goal.invariant-loop-part
invariant-loop-part l = record {
  run : Run;
  end : List ℕ;
  begins : BeginsWithRun run end l.bytes;
  passed : List Piece;
  passing : Passing l.bytes (pieces run) l.part-iterator passed;
  puts : Puts l.fn.out (payload_of passed) l.out;
}
