use Rattle.ndef_types.proofs.request.Request.decode.Goals as goal

pub returns : goal.returns
returns c = c.decode_as.ensures
