use Rattle.std.proofs.Common.{◌≡◌, Err, rules}
use Rattle.ndef_cli_make.proofs.Linked.{carrier_made, carrier_refused}
use Rattle.ndef_cli_make.proofs.handover.make_alternative.Goals as goal

pub returns-in_err-check_references : goal.returns-in_err-check_references
returns-in_err-check_references c =
    let fault = c.in_err-check_references.field-0.0 in
    let is : c.from_residual.result ≡ Err fault = search rules in
    rw is (carrier_refused c.args.word.now c.in-Some.linked fault c.in-Some.ensures c.in_err-check_references.ensures)

pub returns : goal.returns
returns c = carrier_made c.args.word.now c.in-Some.linked c.make_linked.result c.in-Some.ensures c.make_linked.ensures
