use Rattle.std.proofs.Common.{◌≡◌, Some, Err, rules}
use Rattle.ndef_cli_make.specs.Options.{cut_at, is_colon, number_below}
use Rattle.ndef_cli_make.proofs.Linked.{error_asked, error_of_parts, error_unsaid}
use Rattle.ndef_cli_make.proofs.handover.make_error.Goals as goal

pub returns-in_err-detail : goal.returns-in_err-detail
returns-in_err-detail c =
    let cut : cut_at is_colon c.args.word.now ≡ Some (c.in-Some.reason.now, c.in-Some.digits.now) = search rules in
    let number : number_below 256 c.in-Some.reason.now ≡ Some c.in-Some-number_below.reason = search rules in
    let is : c.from_residual.result ≡ Err c.in_err-detail.field-0.0 = search rules in
    rw is (error_unsaid c.args.word.now _ _ _ c.in_err-detail.field-0.0 cut number c.in_err-detail.ensures)

pub returns : goal.returns
returns c =
    let cut : cut_at is_colon c.args.word.now ≡ Some (c.in-Some.reason.now, c.in-Some.digits.now) = search rules in
    let number : number_below 256 c.in-Some.reason.now ≡ Some c.in-Some-number_below.reason = search rules in
    error_asked c.args.word.now _ c.make_reason.result (error_of_parts c.args.word.now _ _ _ c.in_ok-detail.detail cut number c.in_ok-detail.ensures) (search rules)
