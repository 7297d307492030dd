use Rattle.std.proofs.Common.{◌≡◌, ◌+◌, ◌∷◌, length, sym, ◌∙◌, ap, ap₂, subst, arith}
use Rattle.ndef_message.specs.Machine.Seen.{AreRun, AreRuns, run_of, runs_of, pieces_of}
use Rattle.ndef_message.specs.Machine.SeenLaws.{begins, first_shown, shorter}
use Rattle.ndef_message.proofs.SeenRuns.{going_at, next_of, room_of, goes_on, is_over, within, cut_off, reported}
use Rattle.ndef_message.proofs.item.split_item.Goals as goal

pub loop-rest-init : goal.loop-rest-init
loop-rest-init c = going_at _ c.requires.some c.requires.runs

pub first_piece-piece-requires : goal.first_piece-piece-requires
first_piece-piece-requires c = begins (next_of c.loop-rest.invariant)

pub overflow_cast-length : goal.overflow_cast-length
overflow_cast-length c =
    let g = c.loop-rest.invariant in
    let w = first_shown (next_of g) _ _ _ c.first_piece-piece.ensures.piece in
    let k = ap (λ p. length p.payload) w.0 in
    let r = room_of g in
    omega (arith, k, r)

pub overflow_add-length : goal.overflow_add-length
overflow_add-length c =
    let g = c.loop-rest.invariant in
    let w = first_shown (next_of g) _ _ _ c.first_piece-piece.ensures.piece in
    let k = ap (λ p. length p.payload) w.0 in
    let r = room_of g in
    omega (arith, k, r)

pub overflow_sub-bytes : goal.overflow_sub-bytes
overflow_sub-bytes c =
    let g = c.loop-rest.invariant in
    let w = first_shown (next_of g) _ _ _ c.first_piece-piece.ensures.piece in
    let e = ap length w.1 in
    let r = within g in
    omega (arith, e, r)

pub invariant_of-result : goal.invariant_of-result
invariant_of-result c =
    let g = c.loop-rest.invariant in
    let w = first_shown (next_of g) _ _ _ c.first_piece-piece.ensures.piece in
    let size : c.loop-rest.length + length c.first_piece-piece.result.payload.now ≡ c.loop-rest.length + length g.next.payload = ap (λ p. c.loop-rest.length + length p.payload) w.0 in
    let last = ap (λ p. p.chunked) (sym w.0) ∙ sym c.is_chunked.ensures ∙ c.if-not-is_chunked.true in
    let o = is_over g last c.first_piece-piece.result.rest.now w.1 _ size in
    let parts = cut_off o c.split_at.ensures.front c.split_at.ensures.back in
    subst (λ x. AreRun x (c.loop-rest.length + length c.first_piece-piece.result.payload.now)) (sym parts.0) o.run

pub returns-then-not-is_chunked-clause-first : goal.returns-then-not-is_chunked-clause-first
returns-then-not-is_chunked-clause-first c =
    let g = c.loop-rest.invariant in
    let w = first_shown (next_of g) _ _ _ c.first_piece-piece.ensures.piece in
    let size : c.loop-rest.length + length c.first_piece-piece.result.payload.now ≡ c.loop-rest.length + length g.next.payload = ap (λ p. c.loop-rest.length + length p.payload) w.0 in
    let last = ap (λ p. p.chunked) (sym w.0) ∙ sym c.is_chunked.ensures ∙ c.if-not-is_chunked.true in
    let o = is_over g last c.first_piece-piece.result.rest.now w.1 _ size in
    let parts = cut_off o c.split_at.ensures.front c.split_at.ensures.back in
    reported o ∙ ap₂ (λ x y. run_of x ∷ runs_of (pieces_of y)) (sym parts.0) (sym parts.1)

pub returns-then-not-is_chunked-clause-rest : goal.returns-then-not-is_chunked-clause-rest
returns-then-not-is_chunked-clause-rest c =
    let g = c.loop-rest.invariant in
    let w = first_shown (next_of g) _ _ _ c.first_piece-piece.ensures.piece in
    let size : c.loop-rest.length + length c.first_piece-piece.result.payload.now ≡ c.loop-rest.length + length g.next.payload = ap (λ p. c.loop-rest.length + length p.payload) w.0 in
    let last = ap (λ p. p.chunked) (sym w.0) ∙ sym c.is_chunked.ensures ∙ c.if-not-is_chunked.true in
    let o = is_over g last c.first_piece-piece.result.rest.now w.1 _ size in
    let parts = cut_off o c.split_at.ensures.front c.split_at.ensures.back in
    subst AreRuns (sym parts.1) o.rest

pub loop-rest-smaller : goal.loop-rest-smaller
loop-rest-smaller c =
    let f = next_of c.loop-rest.invariant in
    let w = first_shown f _ _ _ c.first_piece-piece.ensures.piece in
    let e = ap length w.1 in
    let r = shorter f in
    omega (arith, e, r)

pub loop-rest-preserved : goal.loop-rest-preserved
loop-rest-preserved c =
    let g = c.loop-rest.invariant in
    let w = first_shown (next_of g) _ _ _ c.first_piece-piece.ensures.piece in
    let size : c.loop-rest.length + length c.first_piece-piece.result.payload.now ≡ c.loop-rest.length + length g.next.payload = ap (λ p. c.loop-rest.length + length p.payload) w.0 in
    goes_on g (ap (λ p. p.chunked) (sym w.0) ∙ sym c.is_chunked.ensures ∙ c.if-not-is_chunked.false) c.first_piece-piece.result.rest.now w.1 _ size
