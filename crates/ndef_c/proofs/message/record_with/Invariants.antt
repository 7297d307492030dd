use Rattle.std.proofs.Common.{◌≡◌, ◌≤◌, List, length, map}
use Rattle.ndef_format.specs.Records.{Run}
use Rattle.ndef_format.specs.Messages.{run_record}
use Rattle.ndef_types.specs.Contents.{Lack}
use Rattle.ndef_types.specs.Links.{HasId}
use Rattle.ndef_c.specs.Links.{BeginsWithRuns}
use Rattle.ndef_c.proofs.Walking.{Left}
use Rattle.ndef_c.proofs.message.record_with.Given as goal

abbrev pub invariant-loop-found : goal.invariant-loop-found
invariant-loop-found l = record {
  same : l.found-iterator.bytes.now ≡ l.bytes;
  counted : l.index ≤ l.found-iterator.at;
  left : (runs : List Run) → BeginsWithRuns runs l.bytes
      → (d : List Run) × Left l.bytes runs l.found-iterator d × (l.index ≡ length d) × Lack (HasId l.id) (map run_record d);
}
