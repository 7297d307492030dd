use Rattle.std.proofs.Common.{◌++◌, refl, true}
use Rattle.ndef_cli_explain.specs.Fields.{field_texts}
use Rattle.ndef_cli_explain.specs.Payloads.{payload_texts}
use Rattle.ndef_cli_explain.specs.Wordings.{first_wording}
use Rattle.ndef_cli_explain.proofs.OutputParts.{two_texts}
use Rattle.ndef_cli_explain.proofs.messages.push_record_lines.Goals as goal

pub returns : goal.returns
returns c =
    let puts = c.in_ok-push_payloads.ensures in
    let fields = field_texts (first_wording c.args.shown true) c.args.from.at c.args.bytes.now c.args.reported.fields in
    let payloads = payload_texts c.args.shown puts.0 in
    (fields ++ payloads, (puts.0, puts.1, refl), two_texts c.args.out.now _ _ fields payloads c.in_ok-push_fields.ensures puts.2)
