use Rattle.ndef_c.proofs.PosterValues.{posters_read}
use Rattle.ndef_c.proofs.laws.written_posters_are_read.Goals as goal

pub returns : goal.returns
returns c = posters_read c.texts_are_exact.ensures.written c.uris_are_exact.ensures.written
