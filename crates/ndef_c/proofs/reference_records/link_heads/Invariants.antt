use Rattle.std.proofs.Common.{◌≡◌, ◌≤◌, ◌<◌, ℕ, List, length, map, get_or}
use Rattle.ndef_format.specs.Records.{Run}
use Rattle.ndef_c.specs.HandoverItems.{RefersAmong, without_record}
use Rattle.ndef_c.specs.Links.{BeginsWithRuns}
use Rattle.ndef_c.specs.ReferenceOrder.{IsHead}
use Rattle.ndef_c.specs.declared.reference_items.NdefReferenceItem.{NdefReferenceItem}
use Rattle.ndef_c.proofs.Walking.{Left}
use Rattle.ndef_c.proofs.reference_records.link_heads.Given as goal

abbrev pub invariant-loop-found : goal.invariant-loop-found
invariant-loop-found l = record {
  same : l.found-iterator.bytes.now ≡ l.bytes;
  counted : l.index ≤ l.found-iterator.at;
  bare : map without_record l.items ≡ map without_record l.fn.items;
  left : (runs : List Run) → BeginsWithRuns runs l.bytes → (done : List Run) × Left l.bytes runs l.found-iterator done × (l.index ≡ length done)
      × ((k : ℕ) (d : NdefReferenceItem) → k < length l.fn.items → IsHead l.payload l.fn.items k → RefersAmong l.bytes l.payload done (get_or l.items k d));
}
