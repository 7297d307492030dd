use Rattle.std.proofs.Common.{◌≤◌, ◌+◌, length}
use Rattle.ndef_format.specs.Messages.{run_record}
use Rattle.ndef_cli_explain.specs.Forms.{style_form}
use Rattle.ndef_cli_explain.specs.Payloads.{AreJoinedBy, with_payloads}
use Rattle.ndef_cli_explain.proofs.EachRun.{KeepsOn}
use Rattle.ndef_cli_explain.proofs.payloads.push_payloads.Given as goal

abbrev pub invariant-loop-item : goal.invariant-loop-item
invariant-loop-item l = record {
  keeps : KeepsOn (with_payloads (style_form l.style)) (λ number run. AreJoinedBy number (run_record run) run.later) l.first l.fn.items l.item-iterator l.number l.initial.out l.out;
  few : l.number + length l.item-iterator ≤ l.first + 65535;
}
