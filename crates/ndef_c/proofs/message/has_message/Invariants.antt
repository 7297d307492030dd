use Rattle.std.proofs.Common.{◌≡◌, List, false}
use Rattle.std.specs.List.{AllByRecursion}
use Rattle.ndef_format.specs.Records.{Run}
use Rattle.ndef_c.specs.Links.{BeginsWithRuns}
use Rattle.ndef_c.specs.Walks.{LieBetween}
use Rattle.ndef_c.proofs.Messages.{IsAmid}
use Rattle.ndef_c.proofs.Walking.{Left}
use Rattle.ndef_c.proofs.message.has_message.Given as goal

abbrev pub invariant-loop-found : goal.invariant-loop-found
invariant-loop-found l = record {
  same : l.found-iterator.bytes.now ≡ l.bytes;
  going : l.found-iterator.ended ≡ false;
  done : List Run;
  before : LieBetween l.bytes 0 done l.found-iterator.at;
  amid : AllByRecursion IsAmid done;
  left : (runs : List Run) → BeginsWithRuns runs l.bytes → (d : List Run) × Left l.bytes runs l.found-iterator d;
}
