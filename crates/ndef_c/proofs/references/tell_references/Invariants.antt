use Rattle.std.proofs.Common.{◌≡◌, ◌≤◌, ◌+◌, List, length}
use Rattle.ndef_types.specs.Values.{AcValue, StandsForAc}
use Rattle.ndef_c.specs.Alternatives.{IsReferencePart}
use Rattle.ndef_c.specs.Arrays.{EachAt, set_over}
use Rattle.ndef_c.specs.declared.part.NdefPart.{NdefPart}
use Rattle.ndef_c.proofs.Alternatives.{NamesAt}
use Rattle.ndef_c.proofs.references.tell_references.Given as goal

abbrev pub invariant-loop-before : goal.invariant-loop-before
invariant-loop-before l = record {
  within : l.before ≤ l.count;
  names : NamesAt l.payload l.count l.at l.before;
  reported : List NdefPart;
  are : (v : AcValue) → StandsForAc l.payload v → EachAt (IsReferencePart l.payload v) 0 reported;
  count : length reported ≡ 1 + l.before;
  filled : l.parts ≡ set_over reported l.fn.parts;
}
