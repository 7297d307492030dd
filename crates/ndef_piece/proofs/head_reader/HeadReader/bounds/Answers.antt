use Rattle.std.proofs.Common.{subst, take}
use Rattle.std.specs.Prelude.{IfSome}
use Rattle.ndef_piece.specs.Bounds.{AreBounds}
use Rattle.ndef_piece.specs.Machine.Inside.{reading}
use Rattle.ndef_piece.specs.Machine.Reading.{IsSound}
use Rattle.ndef_piece.proofs.Boxes.{open_fits, bounds_open, bounds_whole}
use Rattle.ndef_piece.proofs.head_reader.HeadReader.bounds.Goals as goal

pub front_bounds-requires : goal.front_bounds-requires
front_bounds-requires c =
    let r = c.self.inside in
    open_fits r.spot (take r.count r.octets) (subst (IsSound (reading r)) c.in-More.is c.self.invariant.sound)

pub returns-in-More-clause-exact : goal.returns-in-More-clause-exact
returns-in-More-clause-exact c =
    subst (λ r. IfSome c.front_bounds.result (AreBounds r.spot r.octets)) c.self.view_is
    (bounds_open (reading c.self.inside) c.self.inside.answer c.front_bounds.result c.self.invariant.sound c.in-More.is c.front_bounds.ensures)

pub returns-in-Head-clause-exact : goal.returns-in-Head-clause-exact
returns-in-Head-clause-exact c =
    subst (λ r. AreBounds r.spot r.octets c.bounds_at.result) c.self.view_is
    (rw c.bounds_at.ensures (bounds_whole (reading c.self.inside) c.self.inside.answer c.in-Head.head c.self.invariant.sound c.in-Head.is))
