use Rattle.std.proofs.Common.{length}
use Rattle.ndef_cli_explain.proofs.Places.{gapless_fit}
use Rattle.ndef_cli_explain.proofs.refusals.fields_of_front.Goals as goal

pub returns-clause-fit : goal.returns-clause-fit
returns-clause-fit c =
    gapless_fit c.args.at 0 (length c.args.front.now) c.fields_before.result
    (c.fields_before_are_exact.ensures.follow c.args.front.now c.fields_before.result c.fields_before.ensures) c.requires.fits
