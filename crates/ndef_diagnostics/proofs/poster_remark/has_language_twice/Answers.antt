use Rattle.std.proofs.Common.{◌≡◌, ◌∙◌, subst, sym}
use Rattle.ndef_diagnostics.specs.RecordRemarks.{has_language_twice, is_title_again}
use Rattle.ndef_diagnostics.proofs.Counts.{found}
use Rattle.ndef_diagnostics.proofs.poster_remark.has_language_twice.Goals as goal

pub returns-then-is_title_again : goal.returns-then-is_title_again
returns-then-is_title_again c =
    let other = c.args.poster.now.runs in
    let total = has_language_twice c.args.poster.now.runs other in
    found (is_title_again c.in-Some.item other) (has_language_twice c.next.new.self other) total (subst (λ rest. has_language_twice rest other ≡ total) c.in-Some.ensures.steps c.loop-item.invariant)
    (sym c.is_title_again.ensures ∙ c.if-is_title_again.true)
