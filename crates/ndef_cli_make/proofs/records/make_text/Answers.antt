use Rattle.std.proofs.Common.{subst}
use Rattle.ndef_types.specs.Values.{IsTextValue}
use Rattle.ndef_cli_make.proofs.Values.{made_text}
use Rattle.ndef_cli_make.proofs.records.make_text.Goals as goal

pub returns : goal.returns
returns c =
    made_text _ c.in_ok-text.text c.in_ok-payload.payload c.well_known.result c.in_ok-text.ensures.ok (subst IsTextValue c.text.view_is c.text.invariant)
    c.in_ok-payload.ensures.ok c.in_ok-payload.ensures.too_long.1 c.well_known.ensures
