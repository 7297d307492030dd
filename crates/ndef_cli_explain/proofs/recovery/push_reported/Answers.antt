use Rattle.std.proofs.Common.{subst}
use Rattle.ndef_cli_explain.specs.RefusedRecords.{EndRecords}
use Rattle.ndef_cli_explain.proofs.recovery.push_reported.Goals as goal

pub returns-clause-step : goal.returns-clause-step
returns-clause-step c =
    let text = c.in_ok-push_records.ensures in
    let count = c.records_in-count.result in
    (text.0, (count, subst (λ x. EndRecords x count) c.cut.ensures.front c.records_in-count.ensures.count, c.past_message.ensures, text.1), text.2)
