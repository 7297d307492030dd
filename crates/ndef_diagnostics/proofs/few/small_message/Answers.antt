use Rattle.std.proofs.Common.{subst}
use Rattle.ndef_format.specs.Records.{AreOctets}
use Rattle.ndef_format.specs.Reasons.{NoReason}
use Rattle.ndef_format.specs.Refusals.{Refuses}
use Rattle.ndef_message.specs.Views.{IsViewOf}
use Rattle.ndef_diagnostics.proofs.few.small_message.Goals as goal

pub returns-in-Ok : goal.returns-in-Ok
returns-in-Ok c =
    subst (λ limits. IsViewOf (λ tnf name records profile. AreOctets) limits c.args.bytes.now c.in-Ok.message) c.few.ensures c.in-Ok.ensures.message

pub returns-in-Err : goal.returns-in-Err
returns-in-Err c =
    let refusal = c.in-Err.field-0 in (
      refusal,
      subst (λ limits. Refuses (λ tnf name records profile. AreOctets) (λ tnf name records profile s b. NoReason) limits c.args.bytes.now refusal) c.few.ensures c.in-Err.ensures.refused,
    )
