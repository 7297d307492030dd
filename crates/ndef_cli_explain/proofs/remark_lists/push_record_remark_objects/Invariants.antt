use Rattle.std.proofs.Common.{◌≡◌, drop, map}
use Rattle.ndef_cli_explain.specs.Outputs.{with_values}
use Rattle.ndef_cli_explain.specs.RemarkLists.{record_remark_object}
use Rattle.ndef_cli_explain.proofs.remark_lists.push_record_remark_objects.Given as goal

abbrev pub invariant-loop-on : goal.invariant-loop-on
invariant-loop-on l = with_values l.out (map record_remark_object (drop l.on-index l.remarks)) ≡ with_values l.initial.out (map record_remark_object l.remarks)
