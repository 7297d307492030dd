use Rattle.std.proofs.Common.{◌≡◌, ◌≤◌, ◌+◌, ◌++◌, List, length}
use Rattle.std.specs.List.{AllByRecursion}
use Rattle.ndef_types.specs.Values.{AcValue, StandsForAc}
use Rattle.ndef_c.specs.Arrays.{EachAt, set_over}
use Rattle.ndef_c.specs.HandoverItems.{HasNoRecord, IsReferenceOf}
use Rattle.ndef_c.specs.declared.reference_items.NdefReferenceItem.{NdefReferenceItem}
use Rattle.ndef_c.proofs.Alternatives.{NamesAt}
use Rattle.ndef_c.proofs.reference_items.tell_carrier.Given as goal

abbrev pub invariant-loop-before : goal.invariant-loop-before
invariant-loop-before l = record {
  within : l.before ≤ l.count;
  names : NamesAt l.payload l.count l.at l.before;
  own : List NdefReferenceItem;
  are : (v : AcValue) → StandsForAc l.payload v → EachAt (IsReferenceOf l.carrier v) 0 own;
  none : AllByRecursion HasNoRecord own;
  count : length own ≡ 1 + l.before;
  filled : (done before : List NdefReferenceItem) → l.fn.items ≡ set_over done before → l.from ≡ length done → l.items ≡ set_over (done ++ own) before;
}
