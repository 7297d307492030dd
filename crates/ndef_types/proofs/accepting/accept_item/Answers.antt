use Rattle.std.proofs.Common.{◌≡◌, ◌+◌, ◌-◌, ◌∙◌, length, take, drop, sym, ap, subst, inr, arith}
use Rattle.std.specs.List.{concat}
use Rattle.ndef_format.specs.Messages.{run_record}
use Rattle.ndef_lang.specs.Language.{Continues, Reaches, PassesBetween}
use Rattle.ndef_lang.specs.StepLaws.{steps_done}
use Rattle.ndef_types.proofs.PieceLemmas as lemmas
use Rattle.ndef_types.proofs.accepting.accept_item.Goals as goal

pub loop-piece-init : goal.loop-piece-init
loop-piece-init g c =
    let L = g.L.Language in
    let s = c.start-state.result in
    let left = c.from-left.result in
    record {
      counted = omega arith;
      rest = sym c.pieces-piece-items.ensures.joined ∙ ap concat (sym c.into_iter-piece-iterator.ensures.into_iter_gives);
      stepped = c.start-state.ensures.future;
      reached = c.start-state.ensures.reached;
      fits = (g.met.L.Language.exact s left left (omega arith)).0 (sym c.fits.ensures ∙ c.if-not-fits.false);
    }

pub step_all-count-requires-clause-enough : goal.step_all-count-requires-clause-enough
step_all-count-requires-clause-enough g c =
    let l = c.loop-piece in
    lemmas.piece_within (run_record c.args.item.now).payload c.in-Some-piece.piece.now (concat c.next.new.self) l.at l.left l.invariant.counted (l.invariant.rest ∙ ap concat c.in-Some-piece.ensures.steps)

pub step_all-count-requires-clause-fits : goal.step_all-count-requires-clause-fits
step_all-count-requires-clause-fits g c =
    let l = c.loop-piece in
    let counted = l.invariant.counted in
    (g.met.L.Language.exact l.state l.left l.left (omega arith)).1 l.invariant.fits

pub returns-then-count-piece-clause-err : goal.returns-then-count-piece-clause-err
returns-then-count-piece-clause-err g c =
    let L = g.L.Language in
    let l = c.loop-piece in
    let payload = (run_record c.args.item.now).payload in
    let set = L.payloads c.args.kind 65535 c.args.profile in
    let holds = L.reasons c.args.kind 65535 c.args.profile in
    let lowest = c.step_all-count.ensures.reason c.if-count-piece.true c.args.kind 65535 c.args.profile _ l.invariant.reached in
    inr (
      omega arith,
      lemmas.refused_in payload c.in-Some-piece.piece.now (concat c.next.new.self) l.at l.left l.invariant.counted (l.invariant.rest ∙ ap concat c.in-Some-piece.ensures.steps)
          set (L.future l.state) (L.future c.step_all-count.new.self) l.invariant.stepped holds c.step_all-count.result c.reason.result c.step_all-count.ensures.steps c.if-count-piece.true
          (rw c.reason.ensures lowest),
    )

pub loop-piece-preserved : goal.loop-piece-preserved
loop-piece-preserved g c =
    let L = g.L.Language in
    let l = c.loop-piece in
    let payload = (run_record c.args.item.now).payload in
    let piece = c.in-Some-piece.piece.now in
    let following = concat c.next.new.self in
    let split = l.invariant.rest ∙ ap concat c.in-Some-piece.ensures.steps in
    let set = L.payloads c.args.kind 65535 c.args.profile in
    let new = L.future c.step_all-count.new.self in
    let old_reached = L.reached l.state c.args.kind 65535 c.args.profile in
    let reached = L.reached c.step_all-count.new.self c.args.kind 65535 c.args.profile in
    let k = c.step_all-count.result in
    let within = c.step_all-count.ensures.steps.within in
    let few = lemmas.piece_within payload piece following l.at l.left l.invariant.counted split in
    let counted = l.invariant.counted in
    let e : k ≡ length piece = omega arith in
    let done = steps_done c.step_all-count.ensures.steps e in
    let reaches = subst (λ n. Reaches old_reached reached (take (n + 1) piece)) e (c.step_all-count.ensures.reached c.args.kind 65535 c.args.profile) in
    record {
      counted = omega arith;
      rest = subst (λ n. drop (l.at + n) payload ≡ following) (sym e) (lemmas.after_piece payload piece following l.at l.left counted split);
      stepped = subst (λ n. Continues set new (take (l.at + n) payload)) (sym e)
          (lemmas.stepped_after payload piece following l.at l.left counted split set (L.future l.state) new l.invariant.stepped done.0);
      reached = subst (λ n. reached (take (l.at + n) payload)) (sym e)
          (lemmas.reached_after payload piece following l.at l.left counted split set (L.future l.state) new l.invariant.stepped old_reached reached reaches l.invariant.reached);
      fits = subst (λ n. PassesBetween new (l.left - n) (l.left - n)) (sym e) done.1;
    }

pub returns-clause-ok : goal.returns-clause-ok
returns-clause-ok g c =
    let L = g.L.Language in
    let l = c.loop-piece in (
      omega arith,
      lemmas.all_in (L.payloads c.args.kind 65535 c.args.profile) (L.future l.state) (run_record c.args.item.now).payload l.at l.left l.invariant.counted
          (l.invariant.rest ∙ ap concat c.in-None.ensures.steps.0) l.invariant.stepped l.invariant.fits,
    )
