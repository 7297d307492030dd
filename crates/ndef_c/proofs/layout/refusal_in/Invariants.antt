use Rattle.std.proofs.Common.{length}
use Rattle.ndef_c.specs.Layouts.{GoesOn, MayBeLayout, layout_of}
use Rattle.ndef_c.proofs.layout.refusal_in.Given as goal

abbrev pub invariant-loop-field : goal.invariant-loop-field
invariant-loop-field l = record {
  layout : MayBeLayout l.left;
  goes : GoesOn (layout_of l.fields) (layout_of l.left) l.payload l.rest;
}

abbrev pub decreases-loop-field : goal.decreases-loop-field
decreases-loop-field l = length l.left
