use Rattle.std.proofs.Common.{ℕ, ◌-◌, ◌≤◌, List, length}
use Rattle.ndef_message.specs.Machine.Stepping.{PutsAt}
use Rattle.ndef_message.specs.Steps.{IsProgress, Steps}
use Rattle.ndef_message.proofs.stepping.fill.Given as goal

abbrev pub invariant-steps : goal.invariant-steps
invariant-steps l = record {
  text : List ℕ;
  from : l.at ≤ l.end;
  puts : PutsAt l.at text l.initial.buffer l.buffer (l.end - l.at);
  steps : Steps l.plan l.kind l.id l.part l.fn.progress l.reached text;
  is : IsProgress l.plan l.reached;
}

abbrev pub decreases-steps : goal.decreases-steps
decreases-steps l = length l.buffer - l.end
