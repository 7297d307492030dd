use Rattle.std.proofs.Common.{◌-◌, ◌≤◌, length, take}
use Rattle.ndef_lang.specs.Language.{PassesBetween, Continues, Reaches}
use Rattle.ndef_lang.specs.Machine.Leaf.{CompletesLeaf, Holds, ReachedBy}
use Rattle.ndef_lang.proofs.leaf.Leaf.take.Given as goal

abbrev pub invariant-loop-at : goal.invariant-loop-at
invariant-loop-at l = let holds = Holds l.initial.self in record {
  within : l.at ≤ length l.bytes;
  follows : Continues (CompletesLeaf l.initial.self) (CompletesLeaf l.self) (take l.at l.bytes);
  reached : Reaches (ReachedBy l.initial.self holds) (ReachedBy l.self holds) (take l.at l.bytes);
  fits : PassesBetween (CompletesLeaf l.self) (l.lo - l.at) (l.hi - l.at);
}

abbrev pub decreases-loop-at : goal.decreases-loop-at
decreases-loop-at l = length l.bytes - l.at
