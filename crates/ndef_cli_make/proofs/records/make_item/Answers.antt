use Rattle.std.proofs.Common.{◌≡◌, Err, rules}
use Rattle.ndef_cli_make.specs.Faults.{record_fault}
use Rattle.ndef_cli_make.proofs.Values.{item_unmade}
use Rattle.ndef_cli_make.proofs.records.make_item.Goals as goal

pub returns-in_err-new : goal.returns-in_err-new
returns-in_err-new c =
    let error = c.in_err-new.field-0.0 in
    let is : c.from_residual.result ≡ Err (record_fault error) = search rules in
    let new = c.in_err-new.ensures in
    rw is (item_unmade _ error new.bad_shape.0 new.bad_shape.1 new.too_long.0 new.too_long.1)
