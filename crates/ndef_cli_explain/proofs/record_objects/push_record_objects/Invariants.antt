use Rattle.std.proofs.Common.{◌≤◌, ◌+◌, length}
use Rattle.ndef_cli_explain.specs.Outputs.{with_values}
use Rattle.ndef_cli_explain.specs.RecordObjects.{IsRecordObject}
use Rattle.ndef_cli_explain.proofs.EachRun.{KeepsOn}
use Rattle.ndef_cli_explain.proofs.record_objects.push_record_objects.Given as goal

abbrev pub invariant-loop-item : goal.invariant-loop-item
invariant-loop-item l = record {
  keeps : KeepsOn with_values IsRecordObject 1 l.message.runs l.item-iterator l.number l.initial.out l.out;
  few : l.number + length l.item-iterator ≤ 65536;
}
