use Rattle.std.proofs.Common.{◌∙◌, ◌++◌, ap, refl, subst, sym}
use Rattle.std.proofs.lemmas.List.Sums.{fold-append}
use Rattle.ndef_cli_explain.specs.Outputs.{with_pair, with_pairs}
use Rattle.ndef_cli_explain.specs.References.{AreReferencesIn}
use Rattle.ndef_cli_explain.specs.RemarkLists.{AreRemarksIn, record_remark_pairs}
use Rattle.ndef_cli_explain.proofs.messages.push_record_members.Goals as goal

pub returns : goal.returns
returns c =
    let records = c.in_ok-push_records_member.ensures in
    let references = c.in_ok-push_references_member.ensures in
    let few = c.small_message-few.result in
    let remarks = c.in_ok-remarks.remarks.items in
    let last = record_remark_pairs remarks in (
      records.0 ++ (references.0 ++ last),
      (
        few,
        records.0,
        references.0,
        remarks,
        c.small_message-few.ensures,
        records.1,
        subst (λ m. AreReferencesIn m references.0) c.as_ref.ensures.value references.1,
        subst (λ m. AreRemarksIn m remarks) c.as_ref-2.ensures.value c.in_ok-remarks.ensures,
        refl,
      ),
      c.in_ok-push_record_remarks_member.ensures ∙ ap (λ r. with_pairs c.push_references_member.new.out (record_remark_pairs r)) c.as_slice.ensures.value
          ∙ ap (λ o. with_pairs o last) (references.2 ∙ ap (λ o. with_pairs o references.0) records.2)
          ∙ sym (fold-append with_pair c.args.out.now records.0 (references.0 ++ last) ∙ fold-append with_pair (with_pairs c.args.out.now records.0) references.0 last),
    )
