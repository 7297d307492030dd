use Rattle.std.proofs.Common.{◌≡◌, ◌-◌, ◌≤◌, drop, length}
use Rattle.ndef_cli_explain.specs.Forms.{style_form}
use Rattle.ndef_cli_explain.specs.Recovery.{AreCounts}
use Rattle.ndef_cli_explain.proofs.RecoverySteps.{KeepsOn}
use Rattle.ndef_cli_explain.proofs.recovery.push_recovery.Given as goal

abbrev pub invariant-loop-at : goal.invariant-loop-at
invariant-loop-at l = record {
  keeps : KeepsOn (style_form l.look.style) l.look.source.limits l.input l.fn.first l.from l.initial.out.text l.out.text;
  counts : AreCounts l.from;
  within : l.from.at ≤ length l.input;
  rest : drop l.from.at l.copy.items ≡ drop l.from.at l.input;
  size : length l.copy.items ≡ length l.input;
}

abbrev pub decreases-loop-at : goal.decreases-loop-at
decreases-loop-at l = length l.input - l.from.at
