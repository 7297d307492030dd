use Rattle.std.proofs.Common.{◌∙◌, ◌∷◌, ap, refl, true}
use Rattle.std.specs.Prelude.{codes}
use Rattle.ndef_cli_explain.specs.Forms.{name_of}
use Rattle.ndef_cli_explain.specs.Messages.{follows_pair, front_pairs, message_rest}
use Rattle.ndef_cli_explain.specs.Outputs.{number_value, with_pair}
use Rattle.ndef_cli_explain.specs.Payloads.{payloads_pair}
use Rattle.ndef_cli_explain.proofs.OutputParts.{line_done}
use Rattle.ndef_cli_explain.proofs.messages.push_records_object.Goals as goal

pub returns : goal.returns
returns c =
    let reported = c.args.reported in
    let from = c.args.from in
    let puts = c.in_ok-push_payloads_member.ensures in
    let front = front_pairs true (name_of c.args.file) from.at c.args.bytes.now reported.fields in
    let length = c.in_ok-number_member-2.ensures ∙ ap (λ o. with_pair o (codes "length", number_value reported.taken)) c.in_ok-number_member.ensures in
    let message = c.in_ok-number_member-3.ensures ∙ ap (λ o. with_pair o (codes "message", number_value from.message)) length in
    let members = puts.2 ∙ ap (λ o. with_pair o (payloads_pair puts.0)) message in (
      _,
      (puts.0, puts.1, refl),
      line_done c.args.out.now _ _ _ _ front (follows_pair from ∷ message_rest from.message reported.taken puts.0) c.in_ok-begin_object.ensures members c.in_ok-end.ensures c.in_ok-end-2.ensures,
    )
