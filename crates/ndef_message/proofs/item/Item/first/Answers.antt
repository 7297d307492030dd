use Rattle.std.proofs.Common.{◌∙◌, ap}
use Rattle.ndef_message.specs.Machine.SeenLaws.{begins, first_shown}
use Rattle.ndef_message.proofs.SeenRuns.{initial_of, run_seen, read_seen, lengths_seen}
use Rattle.ndef_message.proofs.item.Item.first.Goals as goal

pub first_piece-requires : goal.first_piece-requires
first_piece-requires c = begins (initial_of c.self.invariant)

pub returns-clause-shown : goal.returns-clause-shown
returns-clause-shown c =
    let a = c.self.invariant in
    (first_shown (initial_of a) _ _ _ c.first_piece.ensures.piece).0 ∙ ap (λ r. r.initial) (run_seen a c.self.view_is)

pub returns-clause-read : goal.returns-clause-read
returns-clause-read c = read_seen c.self.invariant c.self.view_is

pub returns-clause-lengths : goal.returns-clause-lengths
returns-clause-lengths c = lengths_seen c.self.invariant c.self.view_is
