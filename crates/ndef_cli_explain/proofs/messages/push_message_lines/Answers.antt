use Rattle.std.proofs.Common.{◌∙◌, ◌++◌, ap, refl, subst, true}
use Rattle.ndef_diagnostics.specs.RecordRemarks.{BeginsWithFew}
use Rattle.ndef_cli_explain.specs.Fields.{field_texts}
use Rattle.ndef_cli_explain.specs.Messages.{message_head}
use Rattle.ndef_cli_explain.specs.Payloads.{payload_texts}
use Rattle.ndef_cli_explain.specs.RemarkLists.{AreRemarksIn, record_remark_lines}
use Rattle.ndef_cli_explain.specs.Wordings.{first_wording}
use Rattle.ndef_cli_explain.proofs.OutputParts.{lines_done}
use Rattle.ndef_cli_explain.proofs.messages.push_message_lines.Goals as goal

pub returns : goal.returns
returns c =
    let puts = c.in_ok-push_payloads.ensures in
    let reported = c.args.reported in
    let shown = c.args.shown in
    let few = c.small_message-few.result in
    let remarks = c.in_ok-remarks.remarks.items in
    let head = message_head c.args.from.message c.args.from.at reported.taken in
    let fields = field_texts (first_wording shown true) c.args.from.at c.args.bytes.now reported.fields in
    let payloads = payload_texts shown puts.0 in
    let said = record_remark_lines remarks in (
      head ++ (fields ++ (payloads ++ said)),
      (
        puts.0,
        few,
        remarks,
        puts.1,
        subst (λ s. BeginsWithFew s few) c.cut.ensures.front c.small_message-few.ensures,
        subst (λ m. AreRemarksIn m remarks) c.as_ref.ensures.value c.in_ok-remarks.ensures,
        refl,
      ),
      lines_done c.args.out.now.text head fields payloads said _ _ _ _ c.in_ok-push_message_line.ensures c.in_ok-push_fields.ensures puts.2
          (c.in_ok-push_record_remark_lines.ensures ∙ ap (λ r. c.push_payloads.new.out.text ++ record_remark_lines r) c.as_slice.ensures.value),
    )
