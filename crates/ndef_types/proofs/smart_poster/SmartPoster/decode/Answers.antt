use Rattle.ndef_types.proofs.smart_poster.SmartPoster.decode.Goals as goal

pub returns : goal.returns
returns c = c.decode_as.ensures
