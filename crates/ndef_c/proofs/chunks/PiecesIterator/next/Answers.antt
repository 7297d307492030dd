use Rattle.std.proofs.Common.{◌≤◌, length, refl, arith}
use Rattle.ndef_piece.specs.Whole.{shown}
use Rattle.ndef_c.proofs.PieceParts.{part_of, piece_there}
use Rattle.ndef_c.proofs.chunks.PiecesIterator.next.Goals as goal

pub returns-clause-steps : goal.returns-clause-steps
returns-clause-steps c =
    let f = c.in_ok-piece.piece in
    let self = c.args.self.now in
    let within : self.at ≤ length self.bytes.now = omega (arith, c.if-self.false) in
    let part = part_of self.bytes.now f.rest.now f.payload.now in
    let t = piece_there f.header _ f.kind.now f.id.now f.payload.now f.rest.now c.split_at.result.1.now self.bytes.now self.at part within c.split_at.ensures.back c.in_ok-piece.ensures.no_id c.in_ok-piece.ensures.piece refl refl in
    record { follows = c.if-not-self.false; piece = shown f; is = t.is; same = refl; next = refl; chunked = c.is_chunked-self.ensures }
