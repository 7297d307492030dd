use Rattle.std.proofs.Common.{arith}
use Rattle.ndef_message.proofs.Shown as shown
use Rattle.ndef_message.proofs.checker.Checker.ended_records.Goals as goal

pub returns : goal.returns
returns g c =
    λ front given point x.
    let n = shown.counted c.format_laws.ensures.laws c.args.self.now c.format_laws.ensures.range front given point x.1 in
    let r = c.records.ensures.value in
    let e = c.saturating_sub.ensures in
    omega arith
