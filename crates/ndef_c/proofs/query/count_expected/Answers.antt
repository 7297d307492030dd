use Rattle.std.proofs.Common.{◌++◌, ◌∷◌, [], length, refl, sym, ◌∙◌, ap, arith}
use Rattle.std.specs.Prelude.{filter}
use Rattle.ndef_format.specs.Messages.{run_record}
use Rattle.ndef_c.specs.RecordQuery.{has_type}
use Rattle.ndef_c.proofs.Ahead.{ahead_in, all_done, reached}
use Rattle.ndef_c.proofs.Filtered.{count_more, count_same}
use Rattle.ndef_c.proofs.Walking.{begins, here}
use Rattle.ndef_c.proofs.query.count_expected.Goals as goal

pub loop-found-init : goal.loop-found-init
loop-found-init g c =
    let s = begins c.into_iter-found-iterator.ensures.into_iter_gives c.from-found-items.ensures.bytes c.from-found-items.ensures.at c.from-found-items.ensures.going in
    record { same = s.same; counted = omega arith; ahead = λ profile items m. ([], ahead_in profile items c.args.bytes.now s m, refl) }

pub wants-requires : goal.wants-requires
wants-requires g c = let h = here c.args.bytes.now _ c.in-Some.found _ c.in-Some.ensures.steps c.loop-found.invariant.same in (_, h.there)

pub overflow_add-count : goal.overflow_add-count
overflow_add-count g c =
    let i = c.loop-found.invariant in
    let h = here c.args.bytes.now _ c.in-Some.found _ c.in-Some.ensures.steps i.same in
    omega (arith, i.counted, h.there.onward, h.there.within)

pub loop-found-preserved-then-wants : goal.loop-found-preserved-then-wants
loop-found-preserved-then-wants g c =
    let i = c.loop-found.invariant in
    let h = here c.args.bytes.now _ c.in-Some.found _ c.in-Some.ensures.steps i.same in
    let item = run_record h.there.run in
    record {
      same = h.same;
      counted = omega (arith, i.counted, h.there.onward, h.next);
      ahead = λ profile items m.
          let a = i.ahead profile items m in
          let more = count_more (has_type g.W.Expected.expected) a.0 item (sym (c.wants.ensures _ h.there) ∙ c.if-wants.true) in
          (a.0 ++ item ∷ [], (reached a.1 h).next, omega (arith, a.2, more));
    }

pub loop-found-preserved : goal.loop-found-preserved
loop-found-preserved g c =
    let i = c.loop-found.invariant in
    let h = here c.args.bytes.now _ c.in-Some.found _ c.in-Some.ensures.steps i.same in
    let item = run_record h.there.run in
    record {
      same = h.same;
      counted = omega (arith, i.counted, h.there.onward, h.next);
      ahead = λ profile items m.
          let a = i.ahead profile items m in
          let same = count_same (has_type g.W.Expected.expected) a.0 item (sym (c.wants.ensures _ h.there) ∙ c.if-wants.false) in
          (a.0 ++ item ∷ [], (reached a.1 h).next, omega (arith, a.2, same));
    }

pub returns : goal.returns
returns g c = λ profile items m.
    let a = c.loop-found.invariant.ahead profile items m in
    a.2 ∙ ap (λ xs. length (filter (has_type g.W.Expected.expected) xs)) (sym (all_done a.1 c.in-None.ensures.steps))
