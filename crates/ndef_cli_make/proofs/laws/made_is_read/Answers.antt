use Rattle.ndef_cli_make.proofs.ReadBack.{made_is_read}
use Rattle.ndef_cli_make.proofs.laws.made_is_read.Goals as goal

pub returns : goal.returns
returns g c =
    made_is_read g.I.Inputs.gives c.strict_contents_are_read.ensures.strict c.short_is_canonical.ensures _ _ c.typed_payloads.ensures.types c.reading_gives_back.ensures
