use Rattle.std.proofs.Common.{refl}
use Rattle.ndef_message.proofs.decoder.Decoder.new.Goals as goal

pub returns : goal.returns
returns g c =
    let new = c.start.ensures in
    (new.limits, refl, (_, (new.reached, c.new.ensures)))
