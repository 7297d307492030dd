use Rattle.std.proofs.Common.{◌≡◌, ℕ, List, length, drop}
use Rattle.ndef_format.specs.Records.{Piece, Run, pieces}
use Rattle.ndef_c.specs.Arrays.{set_over}
use Rattle.ndef_c.specs.Chunks.{ArePiecesAt}
use Rattle.ndef_c.specs.Walks.{BeginsWithRun}
use Rattle.ndef_c.specs.declared.part.NdefPart.{NdefPart}
use Rattle.ndef_c.proofs.PieceParts.{Passing, end_of}
use Rattle.ndef_c.proofs.chunks.tell_pieces.Given as goal

abbrev pub invariant-loop-part : goal.invariant-loop-part
invariant-loop-part l = record {
  run : Run;
  end : List ℕ;
  begins : BeginsWithRun run end (drop l.at l.bytes);
  passed : List Piece;
  passing : Passing l.bytes (pieces run) l.part-iterator passed;
  done : List NdefPart;
  are : ArePiecesAt l.bytes l.at passed done;
  place : end_of l.at done ≡ l.part-iterator.at;
  filled : l.parts ≡ set_over done l.fn.parts;
  index : l.index ≡ length done;
}
