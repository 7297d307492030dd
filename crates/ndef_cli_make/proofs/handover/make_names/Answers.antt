use Rattle.std.proofs.Common.{◌≡◌, ◌∙◌, ◌++◌, ap, sym, subst, Err, rules}
use Rattle.ndef_cli_make.specs.CarrierWords.{references_left}
use Rattle.ndef_cli_make.specs.Faults.{name_fault}
use Rattle.ndef_cli_make.specs.Handovers.{AreShort}
use Rattle.ndef_cli_make.proofs.Short.{names_fail, short_within}
use Rattle.ndef_cli_make.proofs.handover.make_names.Goals as goal

pub returns-in_err-from_slice : goal.returns-in_err-from_slice
returns-in_err-from_slice c =
    let error = c.in_err-from_slice.field-0.0 in
    let all = references_left c.args.references in
    let is : c.from_residual.result ≡ Err (name_fault error) = search rules in
    let short = short_within c.loop-reference.names.items c.in-Some.reference.now (references_left c.in-Some.more)
    (subst AreShort (sym c.loop-reference.invariant ∙ ap (λ left. c.loop-reference.names.items ++ left) c.in-Some.ensures) c.requires) in
    rw is (names_fail all error c.in-Some.reference.now short (λ h. c.in_err-from_slice.ensures.too_long.0 h))
