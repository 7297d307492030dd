use Rattle.std.proofs.Common.{◌≤◌, drop, option_map}
use Rattle.std.specs.Io.KnownBytes.{Keeps}
use Rattle.ndef_message.proofs.std_source.consume_pending.Given as goal

abbrev pub invariant-loop-left : goal.invariant-loop-left
invariant-loop-left g l = record {
  few : l.left ≤ l.pending;
  keeps : Keeps (option_map (drop l.pending) (g.R.Read.remaining l.initial.reader)) (option_map (drop l.left) (g.R.Read.remaining l.reader));
}

abbrev pub decreases-loop-left : goal.decreases-loop-left
decreases-loop-left g l = l.left
