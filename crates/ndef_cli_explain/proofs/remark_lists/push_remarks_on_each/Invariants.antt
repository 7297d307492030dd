use Rattle.std.proofs.Common.{◌≤◌, ◌+◌, ◌++◌, length}
use Rattle.ndef_cli_explain.specs.RemarkLists.{AreRemarksOn}
use Rattle.ndef_cli_explain.proofs.EachRun.{KeepsOn}
use Rattle.ndef_cli_explain.proofs.remark_lists.push_remarks_on_each.Given as goal

abbrev pub invariant-loop-item : goal.invariant-loop-item
invariant-loop-item l = record {
  keeps : KeepsOn ◌++◌ (AreRemarksOn l.message.runs) 1 l.message.runs l.item-iterator l.number l.initial.remarks.items l.remarks.items;
  few : l.number + length l.item-iterator ≤ 65536;
}
