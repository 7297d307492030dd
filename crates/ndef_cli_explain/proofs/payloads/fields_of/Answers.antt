use Rattle.std.proofs.Common.{arith, length, rules}
use Rattle.ndef_cli_explain.proofs.Places.{gapless_fit}
use Rattle.ndef_cli_explain.proofs.payloads.fields_of.Goals as goal

pub returns-clause-fit : goal.returns-clause-fit
returns-clause-fit c =
    gapless_fit 0 0 (length c.args.payload.now) c.payload_fields.result
    (c.payload_fields_are_exact.ensures.follow c.args.kind c.args.payload.now c.payload_fields.result c.payload_fields.ensures) (search (rules, arith))
