use Rattle.std.proofs.Common.{subst}
use Rattle.ndef_cli_explain.specs.Forms.{style_form}
use Rattle.ndef_cli_explain.specs.Recovery.{IsPastEnd}
use Rattle.ndef_cli_explain.specs.RefusedRecords.{EndRecords, IsRefusedRecord}
use Rattle.ndef_cli_explain.proofs.RecoverySteps.{on_ok}
use Rattle.ndef_cli_explain.proofs.explained.push_past_refusal.Goals as goal

pub returns : goal.returns
returns c =
    let sound = c.records_in.result in
    let found = c.refused_record-found.result in
    on_ok (λ a. (
      a.0,
      (
        sound,
        found,
        subst (λ x. EndRecords x sound) c.cut.ensures.front c.records_in.ensures.count,
        subst (λ x. IsRefusedRecord x c.args.refusal found) c.cut.ensures.back c.refused_record-found.ensures.found,
        subst (λ from. IsPastEnd (style_form c.args.look.now.style) c.args.look.now.source.limits c.args.input.now from found found.end a.0) c.message_at-from.ensures a.1,
      ),
      a.2,
    )) c.push_past_end.result c.push_past_end.ensures
