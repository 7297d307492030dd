use Rattle.std.proofs.Common.{arith, refl}
use Rattle.ndef_value.specs.SliceLaws.{after_drop}
use Rattle.ndef_tool.proofs.Bounded.{refused_bounded, viewed_bounded}
use Rattle.ndef_tool.proofs.Sessions.{refused_bytes}
use Rattle.ndef_tool.proofs.reading.view_next.Goals as goal

pub returns-in-Ok-clause-taken : goal.returns-in-Ok-clause-taken
returns-in-Ok-clause-taken g c = (
  viewed_bounded c.messages_are_bounded.ensures g.L.RecordLanguage.payloads g.L.RecordLanguage.reasons c.args.limits c.args.left.now.now c.in-Ok.view c.in-Ok.ensures.message,
  λ small. omega arith,
)

pub returns-in-Err-clause-next : goal.returns-in-Err-clause-next
returns-in-Err-clause-next g c =
    let on = c.in_ok-go_on.ensures in (
      (
        on.0,
        refl,
        on.1,
        refused_bytes g.L.RecordLanguage.payloads g.L.RecordLanguage.reasons c.args.limits c.args.left.now.now _ c.in-Err.refusal c.in-Err.ensures.refused (after_drop c.in-Err.refusal.at c.args.left.now.now),
      ),
      refl,
    )

pub returns-in-Err-clause-taken : goal.returns-in-Err-clause-taken
returns-in-Err-clause-taken g c =
    let place = refused_bounded c.messages_are_bounded.ensures g.L.RecordLanguage.payloads g.L.RecordLanguage.reasons c.args.limits c.args.left.now.now c.in-Err.refusal c.in-Err.ensures.refused in
    (c.in-Err.refusal.at, (refl, place), λ small. omega arith)
