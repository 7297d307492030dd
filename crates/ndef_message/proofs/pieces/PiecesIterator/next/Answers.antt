use Rattle.std.proofs.Common.{rules, ◌<◌, ◌∷◌, length, sym, ◌∙◌, ap, ap₂, subst}
use Rattle.ndef_format.specs.Messages.{SpellsPieces}
use Rattle.ndef_message.specs.Machine.Seen.{pieces_of}
use Rattle.ndef_message.specs.Views.{payloads}
use Rattle.ndef_message.specs.Machine.SeenLaws.{begins, first_of_some, first_shown, reported_after}
use Rattle.ndef_message.proofs.pieces.PiecesIterator.next.Goals as goal

pub first_piece-piece-requires : goal.first_piece-piece-requires
first_piece-piece-requires c =
    let some : 0 < length c.self.inside.bytes.now = search rules in
    begins (first_of_some _ _ some c.self.invariant.1).2

pub invariant_of-self : goal.invariant_of-self
invariant_of-self c =
    let some : 0 < length c.self.inside.bytes.now = search rules in
    let f = first_of_some _ _ some c.self.invariant.1 in
    let w = first_shown f.2 _ _ _ c.first_piece-piece.ensures.piece in
    (f.1, subst (SpellsPieces f.1) (sym w.1) f.2.more)

pub returns-clause-steps : goal.returns-clause-steps
returns-clause-steps c =
    let some : 0 < length c.self.inside.bytes.now = search rules in
    let f = first_of_some _ _ some c.self.invariant.1 in
    let w = first_shown f.2 _ _ _ c.first_piece-piece.ensures.piece in
    sym c.self.view_is ∙ ap payloads (reported_after f.2) ∙ ap₂ (λ p r. p.payload ∷ payloads (pieces_of r)) (sym w.0) (sym w.1)

pub returns-clause-goes : goal.returns-clause-goes
returns-clause-goes c =
    let some : 0 < length c.self.inside.bytes.now = search rules in
    let f = first_of_some _ _ some c.self.invariant.1 in
    let w = first_shown f.2 _ _ _ c.first_piece-piece.ensures.piece in
    let e = sym c.self.view_is ∙ ap payloads (reported_after f.2) ∙ ap₂ (λ p r. p.payload ∷ payloads (pieces_of r)) (sym w.0) (sym w.1) in
    let n = ap length e in
    search rules
