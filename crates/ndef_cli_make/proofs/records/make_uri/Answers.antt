use Rattle.ndef_cli_make.proofs.Values.{made_uri}
use Rattle.ndef_cli_make.proofs.records.make_uri.Goals as goal

pub returns : goal.returns
returns c =
    made_uri c.args.uri.now c.in_ok-uri.uri c.in_ok-payload.payload c.well_known.result c.in_ok-uri.ensures.ok c.in_ok-payload.ensures.ok
    c.in_ok-payload.ensures.too_long.1 c.well_known.ensures
