use Rattle.std.proofs.Common.{◌≡◌, ◌+◌, ◌++◌, ◌∷◌, [], length, length-append, refl, sym, ◌∙◌, ap, subst, arith}
use Rattle.std.proofs.lemmas.Option.{slice_get_within}
use Rattle.std.specs.Prelude.{filter}
use Rattle.ndef_format.specs.Messages.{run_record}
use Rattle.ndef_format.specs.declared.profile.Profile.TheVariants.{Standard}
use Rattle.ndef_c.specs.Nested.{MayBeInPieces}
use Rattle.ndef_c.specs.RecordQuery.{IsExpectedAt, has_type}
use Rattle.ndef_c.proofs.Ahead.{ahead_in, all_done, reached}
use Rattle.ndef_c.proofs.Filled.{each_more, filled_on, length-set_over}
use Rattle.ndef_c.proofs.Filtered.{count_more, count_same, filter_at, expected_at}
use Rattle.ndef_c.proofs.Walking.{begins, here}
use Rattle.ndef_c.proofs.query.tell_all.Goals as goal

pub message-message-requires : goal.message-message-requires
message-message-requires g c = c.requires.records

pub loop-found-init : goal.loop-found-init
loop-found-init g c =
    let h = c.requires.records in
    let s = begins c.into_iter-found-iterator.ensures.into_iter_gives c.from-found-items.ensures.bytes c.from-found-items.ensures.at c.from-found-items.ensures.going in
    record {
      items = h.0;
      records = h.1;
      same = s.same;
      done = [];
      ahead = ahead_in Standard h.0 _ s (subst (MayBeInPieces Standard h.0) (sym c.message-message.ensures) (g.met.S.RecordQuery.in_pieces c.args.query.now h.0 h.1));
      reported = [];
      are = tt;
      count = refl;
      filled = refl;
      index = refl;
      counted = omega arith;
    }

pub wants-requires : goal.wants-requires
wants-requires g c = let h = here c.message-message.result.now _ c.in-Some.found _ c.in-Some.ensures.steps c.loop-found.invariant.same in (_, h.there)

pub given-requires : goal.given-requires
given-requires g c =
    let expected = has_type g.S.Expected.expected in
    let i = c.loop-found.invariant in
    let h = here c.message-message.result.now _ c.in-Some.found _ c.in-Some.ensures.steps i.same in
    let r = reached i.ahead h in
    let k = sym (c.wants.ensures _ h.there) ∙ c.if-wants.true in
    (i.items, length (filter expected i.done), i.records, subst (λ b. IsExpectedAt expected b i.items (length (filter expected i.done)) c.in-Some.found) c.message-message.ensures (expected_at expected h r k))

pub bounds-array-index : goal.bounds-array-index
bounds-array-index g c =
    let expected = has_type g.S.Expected.expected in
    let i = c.loop-found.invariant in
    let h = here c.message-message.result.now _ c.in-Some.found _ c.in-Some.ensures.steps i.same in
    let r = reached i.ahead h in
    let k = sym (c.wants.ensures _ h.there) ∙ c.if-wants.true in
    let l = slice_get_within (filter expected i.items) (length (filter expected i.done)) (run_record h.there.run) (filter_at expected i.items i.done (run_record h.there.run) r.within k) in
    let buffer = c.requires.buffer i.items i.records in
    let count = i.count in
    let index = i.index in
    let n = ap length i.filled ∙ length-set_over i.reported c.args.array.now (omega (arith, l, buffer, count)) in
    omega (arith, l, buffer, count, index, n)

pub overflow_add-index : goal.overflow_add-index
overflow_add-index g c =
    let i = c.loop-found.invariant in
    let h = here c.message-message.result.now _ c.in-Some.found _ c.in-Some.ensures.steps i.same in
    omega (arith, i.counted, h.there.onward, h.there.within)

pub loop-found-preserved-then-wants : goal.loop-found-preserved-then-wants
loop-found-preserved-then-wants g c =
    let expected = has_type g.S.Expected.expected in
    let i = c.loop-found.invariant in
    let h = here c.message-message.result.now _ c.in-Some.found _ c.in-Some.ensures.steps i.same in
    let item = run_record h.there.run in
    let r = reached i.ahead h in
    let given = c.given.result in
    let holds = g.S.RecordQuery.is_given c.args.query.now i.items in
    let e = sym (c.wants.ensures _ h.there) ∙ c.if-wants.true in
    let there = subst (λ b. IsExpectedAt expected b i.items (length (filter expected i.done)) c.in-Some.found) c.message-message.ensures (expected_at expected h r e) in
    let count = i.count in
    let index = i.index in
    let place : length (filter expected i.done) ≡ 0 + length i.reported = omega (arith, count) in
    let more = count_more expected i.done item e in
    let one = length-append i.reported (given ∷ []) in
    let l = slice_get_within (filter expected i.items) (length (filter expected i.done)) item (filter_at expected i.items i.done item r.within e) in
    let buffer = c.requires.buffer i.items i.records in
    record {
      items = i.items;
      records = i.records;
      same = h.same;
      done = i.done ++ item ∷ [];
      ahead = r.next;
      reported = i.reported ++ given ∷ [];
      are = each_more holds 0 i.reported given i.are (subst (λ j. holds j given) place (c.given.ensures i.items _ i.records there));
      count = omega (arith, count, more, one);
      filled = filled_on i.reported given _ _ _ i.filled i.index (omega (arith, l, buffer, count));
      index = omega (arith, index, one);
      counted = omega (arith, i.counted, h.there.onward, h.next);
    }

pub loop-found-preserved : goal.loop-found-preserved
loop-found-preserved g c =
    let i = c.loop-found.invariant in
    let h = here c.message-message.result.now _ c.in-Some.found _ c.in-Some.ensures.steps i.same in
    let r = reached i.ahead h in
    let same = count_same (has_type g.S.Expected.expected) i.done (run_record h.there.run) (sym (c.wants.ensures _ h.there) ∙ c.if-wants.false) in
    record {
      items = i.items;
      records = i.records;
      same = h.same;
      done = i.done ++ run_record h.there.run ∷ [];
      ahead = r.next;
      reported = i.reported;
      are = i.are;
      count = omega (arith, i.count, same);
      filled = i.filled;
      index = i.index;
      counted = omega (arith, i.counted, h.there.onward, h.next);
    }

pub returns : goal.returns
returns g c =
    let i = c.loop-found.invariant in
    let e = ap (λ xs. length (filter (has_type g.S.Expected.expected) xs)) (all_done i.ahead c.in-None.ensures.steps) in
    (i.items, i.records, i.reported, i.are, i.count ∙ sym e, i.filled)
