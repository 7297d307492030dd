use Rattle.std.proofs.Common.{◌++◌, ◌∷◌, [], refl, sym, ◌∙◌, true≢false}
use Rattle.ndef_value.specs.ListLaws.{all_append}
use Rattle.ndef_c.proofs.Messages.{IsAmid, some_runs, walked_to}
use Rattle.ndef_c.proofs.Places.{bit_is_set, bit_is_clear}
use Rattle.ndef_c.proofs.Walked.{between_on}
use Rattle.ndef_c.proofs.Walking.{all_passed, begins, begins_here, here, left_at, onward}
use Rattle.ndef_c.proofs.message.has_message.Goals as goal

pub loop-found-init : goal.loop-found-init
loop-found-init c =
    let s = begins c.into_iter-found-iterator.ensures.into_iter_gives c.from-found-items.ensures.bytes c.from-found-items.ensures.at c.from-found-items.ensures.going in
    record { same = s.same; going = s.going; done = []; before = sym s.place; amid = tt; left = λ runs b. ([], left_at runs b s) }

pub returns-then-found-eq1 : goal.returns-then-found-eq1
returns-then-found-eq1 c =
    let bytes = c.args.bytes.now in
    let i = c.loop-found.invariant in
    let h = here bytes _ c.in-Some.found _ c.in-Some.ensures.steps i.same in (
      λ _. (
        i.done ++ h.there.run ∷ [],
        record { some = some_runs i.done h.there.run; end = _; walked = walked_to bytes 0 _ _ i.done h.there.run i.before i.amid (begins_here h) (bit_is_set _ _ h.there.last c.if-found-eq1.true) },
      ),
      λ _. refl,
    )

pub loop-found-preserved : goal.loop-found-preserved
loop-found-preserved c =
    let bytes = c.args.bytes.now in
    let i = c.loop-found.invariant in
    let h = here bytes _ c.in-Some.found _ c.in-Some.ensures.steps i.same in
    let amid = bit_is_clear _ _ h.there.last c.if-found-eq1.false in
    record {
      same = h.same;
      going = h.ends ∙ amid;
      done = i.done ++ h.there.run ∷ [];
      before = between_on bytes 0 _ _ i.done h.there.run i.before (begins_here h);
      amid = all_append IsAmid i.done (h.there.run ∷ []) i.amid (amid, tt);
      left = λ runs b. let l = i.left runs b in (l.0 ++ h.there.run ∷ [], (onward l.1 h).left);
    }

pub returns : goal.returns
returns c =
    let i = c.loop-found.invariant in
    (λ e. absurd (true≢false (sym e)), λ m. absurd (true≢false (sym ((all_passed (i.left m.0 m.1).1 c.in-None.ensures.steps).ended m.1.some) ∙ i.going)))
