use Rattle.std.proofs.Common.{◌≡◌, ◌∙◌, List, [], ◌∷◌, ap, false, length, map, sym, true}
use Rattle.std.specs.Prelude.{◌==◌, codes}
use Rattle.ndef_cli_explain.specs.Outputs.{array_of, with_name, with_pairs, with_value}
use Rattle.ndef_cli_explain.specs.RemarkLists.{record_remark_object, record_remark_pairs}
use Rattle.ndef_cli_explain.specs.declared.output.Output.{Output}
use Rattle.ndef_cli_explain.specs.declared.remark_lists.RecordRemark.{RecordRemark}
use Rattle.ndef_cli_explain.proofs.RecoverySteps.{on_ok}
use Rattle.ndef_cli_explain.proofs.OutputParts.{pair_parts}
use Rattle.ndef_cli_explain.proofs.remark_lists.push_record_remarks_member.Goals as goal

some : (remarks : List RecordRemark) (out : Output) → (length remarks == 0) ≡ false
    → with_value (with_name out (codes "remarks")) (array_of (map record_remark_object remarks)) ≡ with_pairs out (record_remark_pairs remarks)
some [] out h = absurd (let k : true ≡ false = h in cc)
some (on ∷ remarks) out h = sym (pair_parts out (codes "remarks", array_of (map record_remark_object (on ∷ remarks))))

pub returns : goal.returns
returns c =
    on_ok (λ e.
    e ∙ ap (λ o. with_value o (array_of (map record_remark_object c.args.remarks.now))) c.in_ok-name.ensures
    ∙ some c.args.remarks.now c.args.out.now (sym c.is_empty.ensures ∙ c.if-is_empty.false))
    c.push_record_remark_array.result c.push_record_remark_array.ensures
