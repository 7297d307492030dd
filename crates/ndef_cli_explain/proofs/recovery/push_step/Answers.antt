use Rattle.std.specs.Prelude.{Err, Ok}
use Rattle.ndef_cli_explain.proofs.RecoverySteps.{if_ok}
use Rattle.ndef_cli_explain.proofs.recovery.push_step.Goals as goal

pub returns-in-Ok-clause-step : goal.returns-in-Ok-clause-step
returns-in-Ok-clause-step c =
    if_ok (λ next a. (a.0, (Ok c.in-Ok.reported, c.in-Ok.ensures.reported, a.1), a.2)) c.push_reported.result c.push_reported.ensures.step

pub returns-in-Err-clause-step : goal.returns-in-Err-clause-step
returns-in-Err-clause-step c =
    if_ok (λ next a. (a.0, (Err c.in-Err.refusal, c.in-Err.ensures.reported, a.1), a.2)) c.push_refusal.result c.push_refusal.ensures.step
