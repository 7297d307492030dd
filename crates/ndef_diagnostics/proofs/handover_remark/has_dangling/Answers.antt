use Rattle.std.proofs.Common.{◌∙◌, ◌+◌, ◌-◌, ap, ap₂, arith, drop, sym, take}
use Rattle.ndef_diagnostics.proofs.References.{dangling_next}
use Rattle.ndef_diagnostics.proofs.handover_remark.has_dangling.Goals as goal

pub loop-left-preserved : goal.loop-left-preserved
loop-left-preserved c =
    let rest = c.loop-left.rest.now in
    let some = c.loop-left-test.true in
    let size = c.from-size.ensures ∙ c.octet_at.ensures in
    dangling_next c.loop-left.left (c.loop-left.left - 1) rest c.front_of.result.now c.after-rest.result.now c.args.message.now.runs _ (omega (arith, some)) c.loop-left.invariant
    (c.front_of.ensures ∙ ap₂ take size c.after.ensures) (sym c.refers.ensures ∙ c.if-not-refers.false)
    (c.after-rest.ensures ∙ ap (λ n. drop (1 + n) rest) size)
