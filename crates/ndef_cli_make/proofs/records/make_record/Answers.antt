use Rattle.std.proofs.Common.{◌≡◌, Err, rules}
use Rattle.ndef_cli_make.specs.Asked.{asked_part}
use Rattle.ndef_cli_make.specs.Checking.{is_unchecked}
use Rattle.ndef_cli_make.specs.Making.{MakesBy}
use Rattle.ndef_cli_make.specs.Options.{subject_named}
use Rattle.ndef_cli_make.proofs.BadPayloads.{unmade_if, unrefused}
use Rattle.ndef_cli_make.proofs.records.make_record.Goals as goal

pub returns-in_err-item : goal.returns-in_err-item
returns-in_err-item c =
    let part = asked_part c.args.said.now in
    let o = subject_named part.0 in
    let payload = c.args.payload.now in
    let fault = c.in_err-item.field-0.0 in
    let is : c.from_residual.result ≡ Err fault = search rules in
    rw is (unmade_if (is_unchecked part) (MakesBy o part.1 payload) fault (λ r h. unrefused o part.1 payload r h) c.in_err-item.ensures)
