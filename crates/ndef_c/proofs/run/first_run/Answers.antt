use Rattle.std.proofs.Common.{true≢false, refl, sym, subst, ◌∙◌, arith}
use Rattle.ndef_format.specs.Records.{IsLater}
use Rattle.ndef_piece.specs.Whole.{shown}
use Rattle.ndef_message.specs.Machine.SeenLaws.{same_split}
use Rattle.ndef_c.proofs.Followed.{begins_with, begins_with_piece, from_piece, goes_on, is_read, reading_at, reading_on, split_size}
use Rattle.ndef_c.proofs.run.first_run.Goals as goal

pub returns-in_default-clause-none : goal.returns-in_default-clause-none
returns-in_default-clause-none c = λ h. c.in_default.ensures.none (begins_with_piece h.0 h.1 c.args.bytes.now h.2)

pub returns-then-not-is_initial-clause-none : goal.returns-then-not-is_initial-clause-none
returns-then-not-is_initial-clause-none c = λ h.
    let p = c.in-Some.ensures.piece in
    let f = from_piece _ _ _ _ p h.0 h.1 h.2 in
    true≢false (sym (c.is_initial.ensures.1 f.is_initial) ∙ c.if-not-is_initial.true)

pub loop-piece-init : goal.loop-piece-init
loop-piece-init c =
    let first = c.in-Some.first in
    let n = split_size (shown first) _ _ _ c.in-Some.ensures.piece in
    record { counted = omega (arith, n); reading = reading_at (shown first) first.rest.now }

pub returns-in_default-whole_piece-clause-none : goal.returns-in_default-whole_piece-clause-none
returns-in_default-whole_piece-clause-none c = λ h.
    let f = from_piece _ _ _ _ c.in-Some.ensures.piece h.0 h.1 h.2 in
    let n = goes_on c.loop-piece.invariant.reading (sym c.is_chunked.ensures ∙ c.loop-piece-test.true) _ _ f.others in
    c.in_default-whole_piece.ensures.none (record { piece = n.1.piece; short = n.1.short; rest = n.1.following; split = n.1.split })

pub returns-then-not-is_later-clause-none : goal.returns-then-not-is_later-clause-none
returns-then-not-is_later-clause-none c = λ h.
    let f = from_piece _ _ _ _ c.in-Some.ensures.piece h.0 h.1 h.2 in
    let n = goes_on c.loop-piece.invariant.reading (sym c.is_chunked.ensures ∙ c.loop-piece-test.true) _ _ f.others in
    let s = same_split _ _ _ _ _ _ _ n.1.split c.in-Some-whole_piece.ensures.piece in
    true≢false (sym (c.is_later.ensures.1 (subst IsLater s.0 n.1.is_later)) ∙ c.if-not-is_later.true)

pub loop-piece-preserved : goal.loop-piece-preserved
loop-piece-preserved c =
    let i = c.in-Some-whole_piece.ensures.piece in
    let n = split_size _ _ _ _ i in
    let k = c.loop-piece.invariant.counted in
    record {
      counted = omega (arith, n, k);
      reading = reading_on _ c.loop-piece.invariant.reading (sym c.is_chunked.ensures ∙ c.loop-piece-test.true)
          (c.is_later.ensures.0 c.if-not-is_later.false) i;
    }

pub returns-clause-some : goal.returns-clause-some
returns-clause-some c =
    let first = c.in-Some.first in
    let i = c.in-Some.ensures.piece in
    let r = c.loop-piece.invariant.reading in
    record {
      run = record { initial = shown first; later = r.done };
      begins = begins_with (shown first) r.done _ _ _ _ (c.is_initial.ensures.0 c.if-not-is_initial.false) i (is_read r (sym c.is_chunked.ensures ∙ c.loop-piece-test.false));
      initial = refl;
      split = i;
      no_id = c.in-Some.ensures.no_id;
      payload = r.size_is;
      pieces_are = r.count_is;
      last = c.is_last.ensures ∙ r.last_is;
    }
