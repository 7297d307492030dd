use Rattle.std.proofs.Common.{◌++◌, ◌∷◌, [], length, length-append, refl, sym, ◌∙◌, ap, subst, arith}
use Rattle.ndef_format.specs.Records.{pieces}
use Rattle.ndef_c.specs.Chunks.{ArePiecesAt, IsPieceAt}
use Rattle.ndef_c.proofs.Filled.{filled_on, length-set_over}
use Rattle.ndef_c.proofs.Followed.{one_record}
use Rattle.ndef_c.proofs.PieceParts.{end_on, none_left, passes, passing_at, pieces_count, pieces_on}
use Rattle.ndef_c.proofs.chunks.tell_pieces.Goals as goal

pub loop-part-init : goal.loop-part-init
loop-part-init c =
    let r = c.requires.run in
    let e = c.into_iter-part-iterator.ensures.into_iter_gives in
    let from = c.from-part-items.ensures in
    record {
      run = r.0;
      end = r.1;
      begins = r.2;
      passed = [];
      passing = passing_at r.0 r.1 c.args.bytes.now c.args.at r.2 e from.bytes from.at from.follows;
      done = [];
      are = tt;
      place = sym (ap (λ p. p.at) e ∙ from.at);
      filled = refl;
      index = refl;
    }

pub bounds-parts-index : goal.bounds-parts-index
bounds-parts-index c =
    let i = c.loop-part.invariant in
    let p = passes i.passing c.in-Some.ensures.steps in
    let all = ap length p.within.1 ∙ length-append i.passed (p.piece ∷ p.within.0) in
    let count = pieces_count _ _ _ _ i.are in
    let buffer = c.requires.buffer i.run i.end i.begins in
    let k = ap length i.filled ∙ length-set_over i.done c.args.parts.now (omega (arith, all, count, buffer)) in
    let n = i.index in
    omega (arith, all, count, k, buffer, n)

pub loop-part-preserved : goal.loop-part-preserved
loop-part-preserved c =
    let i = c.loop-part.invariant in
    let p = passes i.passing c.in-Some.ensures.steps in
    let part = c.in-Some.part in
    let all = ap length p.within.1 ∙ length-append i.passed (p.piece ∷ p.within.0) in
    let count = pieces_count _ _ _ _ i.are in
    let buffer = c.requires.buffer i.run i.end i.begins in
    let more = length-append i.done (part ∷ []) in
    let index = i.index in
    record {
      run = i.run;
      end = i.end;
      begins = i.begins;
      passed = i.passed ++ p.piece ∷ [];
      passing = p.on;
      done = i.done ++ part ∷ [];
      are = pieces_on c.args.bytes.now c.args.at i.passed i.done p.piece part i.are (subst (λ k. IsPieceAt c.args.bytes.now k p.piece part) (sym i.place) p.is);
      place = end_on c.args.at i.done part ∙ sym p.next;
      filled = filled_on i.done part _ _ _ i.filled i.index (omega (arith, all, count, buffer));
      index = omega (arith, index, more);
    }

pub returns : goal.returns
returns c = λ run rest b.
    let i = c.loop-part.invariant in
    let all = none_left i.passing c.in-None.ensures.steps in
    let same = (one_record i.run run i.end rest _ i.begins b).0 in
    let are = subst (λ ps. ArePiecesAt c.args.bytes.now c.args.at ps i.done) (sym all ∙ ap pieces same) i.are in
    (i.done, are, pieces_count c.args.bytes.now c.args.at (pieces run) i.done are, i.filled)
