use Rattle.std.proofs.Common.{Ok, Err, length, refl, inr, arith}
use Rattle.ndef_message.specs.declared.message_reading.ReadError.TheVariants.{NoMemory, Refused}
use Rattle.ndef_tool.proofs.Bounded.{viable_bounded, needs_bounded}
use Rattle.ndef_tool.proofs.Sessions.{reads_kept, incomplete_kept, needs_kept}
use Rattle.ndef_tool.proofs.reading.FromSourceReading.read.Goals as goal

pub returns-in-Ok-clause-next : goal.returns-in-Ok-clause-next
returns-in-Ok-clause-next g c =
    let ahead = c.in_ok-look_ahead.ensures.ahead in (
      ahead.0,
      c.in-Ok.ensures.mark,
      reads_kept g.L.RecordLanguage.payloads g.L.RecordLanguage.reasons c.args.limits _ _ _ (Ok c.in-Ok.read) ahead.2 c.in-Ok.ensures.ok.0,
    )

pub returns-in-Err-Refused-clause-next : goal.returns-in-Err-Refused-clause-next
returns-in-Err-Refused-clause-next g c =
    let ahead = c.in_ok-look_ahead.ensures.ahead in
    let refused = rw c.in-Err-Refused.field-0-is at c.in-Err-Refused.ensures in (
      ahead.0,
      refused.mark,
      ahead.3,
      reads_kept g.L.RecordLanguage.payloads g.L.RecordLanguage.reasons c.args.limits _ _ _ (Err (Refused c.in-Err-Refused.refusal)) ahead.2 (refused.refused c.in-Err-Refused.refusal refl).0,
    )

pub returns-in-Err-ReadFault-clause-taken : goal.returns-in-Err-ReadFault-clause-taken
returns-in-Err-ReadFault-clause-taken g c =
    let ahead = c.in_ok-look_ahead.ensures.ahead in
    let same = c.in_ok-look_ahead.ensures.taken in
    let set = g.L.RecordLanguage.payloads in
    let failed = rw c.in-Err-ReadFault.field-0-is at c.in-Err-ReadFault.ensures in
    let u = (failed.fault refl).0 in (
      length u.0,
      (
        viable_bounded c.messages_are_bounded.ensures set c.args.limits u.0 u.1.viable,
        inr (u.0, refl, incomplete_kept set c.args.limits _ _ u.0 ahead.2 u.1),
      ),
      λ small. let up = u.2 (omega (arith, same)) in omega (arith, up, same),
    )

pub returns-in-Err-NoMemory-clause-next : goal.returns-in-Err-NoMemory-clause-next
returns-in-Err-NoMemory-clause-next g c =
    let ahead = c.in_ok-look_ahead.ensures.ahead in
    let failed = rw c.in-Err-NoMemory.field-0-is at c.in-Err-NoMemory.ensures in
    (ahead.0, failed.mark, reads_kept g.L.RecordLanguage.payloads g.L.RecordLanguage.reasons c.args.limits _ _ _ (Err NoMemory) ahead.2 (failed.memory refl).1)

pub returns-in-Err-NoMemory-clause-taken : goal.returns-in-Err-NoMemory-clause-taken
returns-in-Err-NoMemory-clause-taken g c =
    let ahead = c.in_ok-look_ahead.ensures.ahead in
    let same = c.in_ok-look_ahead.ensures.taken in
    let set = g.L.RecordLanguage.payloads in
    let failed = rw c.in-Err-NoMemory.field-0-is at c.in-Err-NoMemory.ensures in
    let w = (failed.memory refl).0 in (
      length w.0,
      (
        needs_bounded c.messages_are_bounded.ensures set c.args.limits _ w.0 w.1,
        w.0,
        refl,
        inr (needs_kept set c.args.limits _ _ w.0 ahead.2 w.1),
      ),
      λ small. let up = w.2.1 (omega (arith, same)) in omega (arith, up, same),
    )
