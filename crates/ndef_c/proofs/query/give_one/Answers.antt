use Rattle.std.proofs.Common.{◌≡◌, ◌++◌, ◌∷◌, [], length, refl, sym, ◌∙◌, ap, subst, arith}
use Rattle.std.specs.Prelude.{filter}
use Rattle.ndef_format.specs.Messages.{run_record}
use Rattle.ndef_format.specs.declared.profile.Profile.TheVariants.{Standard}
use Rattle.ndef_c.specs.Nested.{MayBeInPieces}
use Rattle.ndef_c.specs.RecordQuery.{IsExpectedAt, has_type}
use Rattle.ndef_c.proofs.Ahead.{ahead_in, all_done, reached}
use Rattle.ndef_c.proofs.Filtered.{count_more, count_same, expected_at}
use Rattle.ndef_c.proofs.Walking.{begins, here}
use Rattle.ndef_c.proofs.query.give_one.Goals as goal

pub loop-found-init : goal.loop-found-init
loop-found-init g c =
    let s = begins c.into_iter-found-iterator.ensures.into_iter_gives c.from-found-items.ensures.bytes c.from-found-items.ensures.at c.from-found-items.ensures.going in
    record {
      same = s.same;
      kept = refl;
      ahead = λ items m. ([], ahead_in Standard items c.message-message.result.now s (subst (MayBeInPieces Standard items) (sym c.message-message.ensures) (g.met.S.RecordQuery.in_pieces c.args.query.now items m)), omega arith);
    }

pub wants-requires : goal.wants-requires
wants-requires g c = let h = here c.message-message.result.now _ c.in-Some.found _ c.in-Some.ensures.steps c.loop-found.invariant.same in (_, h.there)

pub given-requires : goal.given-requires
given-requires g c =
    let expected = has_type g.S.Expected.expected in
    let i = c.loop-found.invariant in
    let h = here c.message-message.result.now _ c.in-Some.found _ c.in-Some.ensures.steps i.same in
    let items = c.requires.0 in
    let a = i.ahead items c.requires.1 in
    let r = reached a.1 h in
    let k = sym (c.wants.ensures _ h.there) ∙ c.if-wants.true in
    (items, length (filter expected a.0), c.requires.1, subst (λ b. IsExpectedAt expected b items (length (filter expected a.0)) c.in-Some.found) c.message-message.ensures (expected_at expected h r k))

pub returns-then-left-eq0-clause-given : goal.returns-then-left-eq0-clause-given
returns-then-left-eq0-clause-given g c = λ _ items m.
    let expected = has_type g.S.Expected.expected in
    let i = c.loop-found.invariant in
    let h = here c.message-message.result.now _ c.in-Some.found _ c.in-Some.ensures.steps i.same in
    let a = i.ahead items m in
    let r = reached a.1 h in
    let k = sym (c.wants.ensures _ h.there) ∙ c.if-wants.true in
    let count = a.2 in
    let none = c.if-left-eq0.true in
    let place : length (filter expected a.0) ≡ c.args.index = omega (arith, count, none) in
    c.given.ensures items c.args.index m (subst (λ j. IsExpectedAt expected (g.S.RecordQuery.octets c.args.query.now) items j c.in-Some.found) place (subst (λ b. IsExpectedAt expected b items (length (filter expected a.0)) c.in-Some.found) c.message-message.ensures (expected_at expected h r k)))

pub returns-then-left-eq0-clause-kept : goal.returns-then-left-eq0-clause-kept
returns-then-left-eq0-clause-kept g c = λ n. absurd (n refl)

pub loop-found-preserved-then-wants : goal.loop-found-preserved-then-wants
loop-found-preserved-then-wants g c =
    let i = c.loop-found.invariant in
    let h = here c.message-message.result.now _ c.in-Some.found _ c.in-Some.ensures.steps i.same in
    let item = run_record h.there.run in
    let some = c.if-left-eq0.false in
    record {
      same = h.same;
      kept = i.kept;
      ahead = λ items m.
          let a = i.ahead items m in
          let more = count_more (has_type g.S.Expected.expected) a.0 item (sym (c.wants.ensures _ h.there) ∙ c.if-wants.true) in
          (a.0 ++ item ∷ [], (reached a.1 h).next, omega (arith, a.2, more, some));
    }

pub loop-found-preserved : goal.loop-found-preserved
loop-found-preserved g c =
    let i = c.loop-found.invariant in
    let h = here c.message-message.result.now _ c.in-Some.found _ c.in-Some.ensures.steps i.same in
    let item = run_record h.there.run in
    record {
      same = h.same;
      kept = i.kept;
      ahead = λ items m.
          let a = i.ahead items m in
          let same = count_same (has_type g.S.Expected.expected) a.0 item (sym (c.wants.ensures _ h.there) ∙ c.if-wants.false) in
          (a.0 ++ item ∷ [], (reached a.1 h).next, omega (arith, a.2, same));
    }

pub returns-clause-end : goal.returns-clause-end
returns-clause-end g c = λ _ items m.
    let a = c.loop-found.invariant.ahead items m in
    let count = a.2 in
    let all = ap (λ xs. length (filter (has_type g.S.Expected.expected) xs)) (all_done a.1 c.in-None.ensures.steps) in
    omega (arith, count, all)

pub returns-clause-kept : goal.returns-clause-kept
returns-clause-kept g c = λ _. c.loop-found.invariant.kept
