use Rattle.std.proofs.Common.{subst}
use Rattle.ndef_piece.specs.Heads.{IsRange}
use Rattle.ndef_piece.specs.Machine.Inside.{reading}
use Rattle.ndef_piece.proofs.Steps.{lengths_open, lengths_whole}
use Rattle.ndef_piece.proofs.head_reader.HeadReader.lengths.Goals as goal

pub returns-in-More-clause-exact : goal.returns-in-More-clause-exact
returns-in-More-clause-exact c =
    subst (λ r. IsRange r.spot r.octets c.range.result) c.self.view_is
    (lengths_open (reading c.self.inside) c.self.inside.answer c.range.result c.range.ensures.room c.self.invariant.sound c.in-More.is c.range.ensures.range)

pub returns-in-Head-clause-exact : goal.returns-in-Head-clause-exact
returns-in-Head-clause-exact c =
    subst (λ r. IsRange r.spot r.octets (c.from-length.result, c.from-length.result)) c.self.view_is
    (rw c.from-length.ensures (lengths_whole (reading c.self.inside) c.self.inside.answer c.in-Head.head c.self.invariant.sound c.in-Head.is))
