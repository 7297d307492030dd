use Rattle.std.proofs.Common.{◌≡◌, arith, length, rules, subst, sym}
use Rattle.std.specs.Prelude.{Err}
use Rattle.ndef_cli_explain.specs.Inputs.{StandsFor}
use Rattle.ndef_cli_explain.proofs.Dumps.{dump_counted, dump_fault, stands_for_fault}
use Rattle.ndef_cli_explain.proofs.inputs.decode.Goals as goal

pub spelled-requires : goal.spelled-requires
spelled-requires c = dump_counted c.args.text.now c.in-Ok.count (sym c.in-Ok.ensures.count)

pub returns-in-Err-spelled-clause-octets : goal.returns-in-Err-spelled-clause-octets
returns-in-Err-spelled-clause-octets c =
    let d = dump_counted c.args.text.now c.in-Ok.count (sym c.in-Ok.ensures.count) in
    let same : length d.0 ≡ c.in-Ok.count = d.2 in
    let some = c.in-Ok.count-test in
    (d.0, d.1, first_of (omega (arith, same, some), search rules))

pub returns-in-Err-clause-octets : goal.returns-in-Err-clause-octets
returns-in-Err-clause-octets c =
    subst (λ unread. StandsFor c.args.text.now (Err unread)) (sym c.unread_of.ensures)
    (stands_for_fault c.args.text.now c.in-Err.fault (dump_fault c.args.text.now c.in-Err.fault (sym c.in-Err.ensures.count)))
