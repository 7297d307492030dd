use Rattle.ndef_types.specs.Contents.{AreInOrder}
use Rattle.ndef_types.proofs.contents.first_wrong.Given as goal

abbrev pub invariant-loop-index : goal.invariant-loop-index
invariant-loop-index l = AreInOrder l.table l.records l.index
