use Rattle.std.proofs.Common.{◌≡◌, ◌++◌, length}
use Rattle.ndef_cli_explain.specs.RemarkLists.{record_remark_lines}
use Rattle.ndef_cli_explain.proofs.remark_lists.push_record_remark_lines.Given as goal

abbrev pub invariant-loop-rest : goal.invariant-loop-rest
invariant-loop-rest l = l.line ++ record_remark_lines l.rest ≡ l.initial.line ++ record_remark_lines l.remarks

abbrev pub decreases-loop-rest : goal.decreases-loop-rest
decreases-loop-rest l = length l.rest
