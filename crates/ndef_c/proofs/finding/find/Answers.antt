use Rattle.std.proofs.Common.{[], refl, sym, ◌∙◌, subst, true≢false, inl, inr}
use Rattle.ndef_c.specs.Walks.{IsRecordThere}
use Rattle.ndef_c.proofs.Passed.{passes_on}
use Rattle.ndef_c.proofs.Places.{bit_is_set, bit_is_clear}
use Rattle.ndef_c.proofs.Walking.{begins, begins_here, here}
use Rattle.ndef_c.proofs.finding.find.Goals as goal

pub loop-found-init : goal.loop-found-init
loop-found-init c =
    let b = begins c.into_iter-found-iterator.ensures.into_iter_gives c.from-found-items.ensures.bytes c.from-found-items.ensures.at c.from-found-items.ensures.going in
    record { same = b.same; going = b.going; kept = refl; passes = record { runs = []; between = sym b.place; passed = tt } }

pub has-requires : goal.has-requires
has-requires c = let h = here c.args.bytes.now _ c.in-Some.found _ c.in-Some.ensures.steps c.loop-found.invariant.same in (_, h.there)

pub returns-then-has-clause-found : goal.returns-then-has-clause-found
returns-then-has-clause-found c = λ _.
    let i = c.loop-found.invariant in
    let h = here c.args.bytes.now _ c.in-Some.found _ c.in-Some.ensures.steps i.same in
    record { next = _; passes = i.passes; record_is = h.there; has = (c.has.ensures _ h.there).0 c.if-has.true }

pub returns-then-found-eq1-clause-end : goal.returns-then-found-eq1-clause-end
returns-then-found-eq1-clause-end c = λ _.
    let i = c.loop-found.invariant in
    let h = here c.args.bytes.now _ c.in-Some.found _ c.in-Some.ensures.steps i.same in
    inr (record {
      next = _;
      passes = i.passes;
      run = h.there.run;
      rest = _;
      begins = h.there.begins;
      lacks = λ has. true≢false (sym ((c.has.ensures _ h.there).1 has) ∙ c.if-has.false);
      ends = bit_is_set _ _ h.there.last c.if-found-eq1.true;
    })

pub loop-found-preserved : goal.loop-found-preserved
loop-found-preserved c =
    let i = c.loop-found.invariant in
    let h = here c.args.bytes.now _ c.in-Some.found _ c.in-Some.ensures.steps i.same in
    let amid = bit_is_clear _ _ h.there.last c.if-found-eq1.false in
    record {
      same = h.same;
      kept = i.kept;
      going = h.ends ∙ amid;
      passes = passes_on _ c.args.bytes.now c.args.at _ _ h.there.run i.passes (begins_here h) (λ has. true≢false (sym ((c.has.ensures _ h.there).1 has) ∙ c.if-has.false), amid);
    }

pub returns-then-found-eq1-clause-kept : goal.returns-then-found-eq1-clause-kept
returns-then-found-eq1-clause-kept c = λ _. c.loop-found.invariant.kept

pub returns-clause-bad : goal.returns-clause-bad
returns-clause-bad c = λ _.
    let i = c.loop-found.invariant in
    let gap : ¬ IsRecordThere c.args.bytes.now c.loop-found.found-iterator.at = λ h. elim c.in-None.ensures.steps [
      | inl e ↦ true≢false (sym e ∙ i.going)
      | inr n ↦ n (subst (λ b. IsRecordThere b c.loop-found.found-iterator.at) (sym i.same) h)
    ] in
    (c.if-at-bytes.false, record { next = _; passes = i.passes; gap = gap })

pub returns-clause-kept : goal.returns-clause-kept
returns-clause-kept c = λ _. c.loop-found.invariant.kept
