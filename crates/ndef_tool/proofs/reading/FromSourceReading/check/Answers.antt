use Rattle.std.proofs.Common.{rules, Ok, Err, length, refl, inr, arith}
use Rattle.ndef_message.specs.declared.message_checking.CheckError.TheVariants.{Refused}
use Rattle.ndef_tool.proofs.Bounded.{viable_bounded}
use Rattle.ndef_tool.proofs.Sessions.{checks_kept, incomplete_kept}
use Rattle.ndef_tool.proofs.reading.FromSourceReading.check.Goals as goal

pub returns-in-Ok-clause-next : goal.returns-in-Ok-clause-next
returns-in-Ok-clause-next g c =
    let ahead = c.in_ok-look_ahead.ensures.ahead in (
      ahead.0,
      c.in-Ok.ensures.mark,
      checks_kept g.L.RecordLanguage.payloads g.L.RecordLanguage.reasons c.args.limits _ _ _ (Ok c.in-Ok.checked) ahead.2 c.in-Ok.ensures.ok.0,
    )

pub returns-in-Err-Refused-clause-next : goal.returns-in-Err-Refused-clause-next
returns-in-Err-Refused-clause-next g c =
    let ahead = c.in_ok-look_ahead.ensures.ahead in
    let refused = rw c.in-Err-Refused.field-0-is at c.in-Err-Refused.ensures in (
      (
        ahead.0,
        refused.mark,
        ahead.3,
        checks_kept g.L.RecordLanguage.payloads g.L.RecordLanguage.reasons c.args.limits _ _ _ (Err (Refused c.in-Err-Refused.refusal)) ahead.2 (refused.refused c.in-Err-Refused.refusal refl).0,
      ),
      refl,
    )

pub returns-in-Err-ReadFault-clause-next : goal.returns-in-Err-ReadFault-clause-next
returns-in-Err-ReadFault-clause-next g c = search rules

pub returns-in-Err-ReadFault-clause-taken : goal.returns-in-Err-ReadFault-clause-taken
returns-in-Err-ReadFault-clause-taken g c =
    let ahead = c.in_ok-look_ahead.ensures.ahead in
    let same = c.in_ok-look_ahead.ensures.taken in
    let set = g.L.RecordLanguage.payloads in
    let failed = rw c.in-Err-ReadFault.field-0-is at c.in-Err-ReadFault.ensures in
    let u = (failed.fault refl).0 in (
      length u.0,
      (
        viable_bounded c.messages_are_bounded.ensures set c.args.limits u.0 u.1.viable,
        inr (u.0, refl, incomplete_kept set c.args.limits _ _ u.0 ahead.2 u.1),
      ),
      λ small. let up = u.2 (omega (arith, same)) in omega (arith, up, same),
    )
