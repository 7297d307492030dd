use Rattle.std.proofs.Common.{◌∙◌, ◌++◌, ap, refl, subst, true}
use Rattle.std.specs.Prelude.{codes}
use Rattle.ndef_cli_explain.specs.Forms.{name_of}
use Rattle.ndef_cli_explain.specs.Messages.{AreRecordMembers, front_pairs, message_rest}
use Rattle.ndef_cli_explain.specs.Outputs.{number_value, with_pair, with_pairs}
use Rattle.ndef_cli_explain.specs.Payloads.{payloads_pair}
use Rattle.ndef_cli_explain.proofs.OutputParts.{line_done}
use Rattle.ndef_cli_explain.proofs.messages.push_message_object.Goals as goal

pub returns : goal.returns
returns c =
    let reported = c.args.reported in
    let puts = c.in_ok-push_payloads_member.ensures in
    let adds = c.in_ok-push_record_members.ensures in
    let front = front_pairs true (name_of c.args.file) c.args.from.at c.args.bytes.now reported.fields in
    let numbers = c.in_ok-number_member-2.ensures ∙ ap (λ o. with_pair o (codes "message", number_value c.args.from.message)) c.in_ok-number_member.ensures in
    let members = adds.2 ∙ ap (λ o. with_pairs o adds.0) (puts.2 ∙ ap (λ o. with_pair o (payloads_pair puts.0)) numbers) in (
      _,
      (puts.0, adds.0, puts.1, subst (λ s. AreRecordMembers s adds.0) c.cut.ensures.front adds.1, refl),
      line_done c.args.out.now _ _ _ _ front (message_rest c.args.from.message reported.taken puts.0 ++ adds.0) c.in_ok-begin_object.ensures members c.in_ok-end.ensures c.in_ok-end-2.ensures,
    )
