use Rattle.std.proofs.Common.{◌≡◌, ◌∙◌, subst, sym}
use Rattle.ndef_diagnostics.specs.RecordRemarks.{has_dangling_carrier, is_dangling_in}
use Rattle.ndef_diagnostics.proofs.Counts.{found}
use Rattle.ndef_diagnostics.proofs.handover_remark.has_dangling_carrier.Goals as goal

pub returns-then-is_dangling : goal.returns-then-is_dangling
returns-then-is_dangling c =
    let other = c.args.message.now.runs in
    let total = has_dangling_carrier c.args.handover.now.runs other in
    found (is_dangling_in c.in-Some.item other) (has_dangling_carrier c.next.new.self other) total (subst (λ rest. has_dangling_carrier rest other ≡ total) c.in-Some.ensures.steps c.loop-item.invariant)
    (sym c.is_dangling.ensures ∙ c.if-is_dangling.true)
