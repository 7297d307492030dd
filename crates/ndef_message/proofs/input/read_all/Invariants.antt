use Rattle.std.proofs.Common.{◌≤◌, ◌-◌, length}
use Rattle.ndef_message.specs.Sources.{Gave}
use Rattle.ndef_message.specs.States.{source_state}
use Rattle.ndef_message.proofs.input.read_all.Given as goal

abbrev pub invariant-loop-input : goal.invariant-loop-input
invariant-loop-input g l = record {
  few : length l.input.items ≤ l.most;
  taken : Gave (source_state g.S.Source l.initial.source) (source_state g.S.Source l.source) l.input.items;
}

abbrev pub decreases-loop-input : goal.decreases-loop-input
decreases-loop-input g l = l.most - length l.input.items
