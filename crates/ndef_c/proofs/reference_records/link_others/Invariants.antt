use Rattle.std.proofs.Common.{◌≡◌, ◌<◌, ◌≤◌, ℕ, List, length, get_or, map}
use Rattle.ndef_c.specs.HandoverItems.{Refers, without_record}
use Rattle.ndef_c.specs.ReferenceOrder.{IsHead}
use Rattle.ndef_c.specs.declared.reference_items.NdefReferenceItem.{NdefReferenceItem}
use Rattle.ndef_c.proofs.reference_records.link_others.Given as goal

abbrev pub invariant-loop-index : goal.invariant-loop-index
invariant-loop-index l = record {
  some : 1 ≤ l.index;
  same : map without_record l.items ≡ map without_record l.fn.items;
  later : (k : ℕ) (d : NdefReferenceItem) → l.index ≤ k → get_or l.items k d ≡ get_or l.fn.items k d;
  done : (bytes : List ℕ) → ((k : ℕ) (d : NdefReferenceItem) → k < length l.fn.items → IsHead l.payload l.fn.items k → Refers bytes l.payload (get_or l.fn.items k d))
      → (k : ℕ) (d : NdefReferenceItem) → k < l.index → k < length l.fn.items → Refers bytes l.payload (get_or l.items k d);
}
