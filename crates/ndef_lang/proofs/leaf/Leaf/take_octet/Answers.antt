use Rattle.std.proofs.Common.{◌≡◌, ◌-◌, ◌<◌, ◌∙◌, true, [], ◌∷◌, sym, subst, arith, length}
use Rattle.ndef_lang.specs.Lengths.{meets}
use Rattle.ndef_lang.specs.LengthLaws.{lengths_fit}
use Rattle.ndef_lang.specs.Language.{PassesBetween}
use Rattle.ndef_lang.specs.StepLaws.{follows_none, reaches_none, passes_none, follows_take, reaches_take, steps_refused, steps_through, all_reached}
use Rattle.ndef_lang.specs.Machine.Leaf.{CompletesLeaf, Holds, ReachedBy, leaf_lengths, leaf_reason}
use Rattle.ndef_lang.specs.Machine.LeafLaws.{are_leaf_lengths}
use Rattle.ndef_lang.proofs.PlaceLemmas.{not_true}
use Rattle.ndef_lang.proofs.StageLemmas.{reached_first, staged_reached, staged_reason}
use Rattle.ndef_lang.proofs.leaf.Leaf.take_octet.Goals as goal

pub overflow_sub-hi : goal.overflow_sub-hi
overflow_sub-hi c =
    let s = c.args.self.now in
    let fits = (lengths_fit (CompletesLeaf s) (leaf_lengths s) c.args.lo c.args.hi (are_leaf_lengths s)).0 c.requires.fits in
    let least = fits.least in
    let most = fits.most in
    let one = c.requires.one in
    let enough = c.requires.enough in
    omega arith

pub returns-then-not-meet : goal.returns-then-not-meet
returns-then-not-meet c =
    let old = c.args.self.now in
    let new = c.after.result in
    let bytes = c.args.bytes.now in
    let lo = c.args.lo - 1 in
    let hi = c.args.hi - 1 in
    let less : 0 < length bytes = (let one = c.requires.one in omega arith) in
    let fits : PassesBetween (CompletesLeaf old) (c.args.lo - 0) (c.args.hi - 0) = passes_none ((lengths_fit (CompletesLeaf old) (leaf_lengths old) c.args.lo c.args.hi (are_leaf_lengths old)).0 c.requires.fits) in
    let met : c.meet.result ≡ meets (leaf_lengths new) lo hi = subst (λ l. c.meet.result ≡ meets l lo hi) c.lengths.ensures c.meet.ensures.value in
    let refused : PassesBetween (CompletesLeaf new) lo hi → ⊥ = λ p. not_true c.meet.result (meets (leaf_lengths new) lo hi) met c.if-not-meet.true ((lengths_fit (CompletesLeaf new) (leaf_lengths new) lo hi (are_leaf_lengths new)).1 p) in
    record {
      steps = steps_refused (CompletesLeaf old) (CompletesLeaf old) (CompletesLeaf new) bytes c.args.lo c.args.hi 0 less (follows_none (CompletesLeaf old)) fits c.after.ensures.future refused;
      goes = reaches_take (ReachedBy old (Holds old)) (ReachedBy old (Holds old)) (ReachedBy new (Holds old)) bytes 0 less (reaches_none (ReachedBy old (Holds old))) (staged_reached old new (_ ∷ []) c.after.ensures.future c.after.ensures.goes (Holds old)) [] (reached_first old);
      reason = λ less. staged_reason old _ (leaf_reason new) c.after.ensures.reason (Holds old) [] (reached_first old) (fits.rest, fits.passed);
    }

pub returns : goal.returns
returns c =
    let old = c.args.self.now in
    let new = c.after.result in
    let bytes = c.args.bytes.now in
    let lo = c.args.lo - 1 in
    let hi = c.args.hi - 1 in
    let one = c.requires.one in
    let less : 0 < length bytes = omega arith in
    let fits : PassesBetween (CompletesLeaf new) lo hi = (lengths_fit (CompletesLeaf new) (leaf_lengths new) lo hi (are_leaf_lengths new)).0 (subst (λ l. meets l lo hi ≡ true) c.lengths.ensures (sym c.meet.ensures.value ∙ c.if-not-meet.false)) in
    record {
      steps = steps_through (CompletesLeaf old) (CompletesLeaf new) bytes c.args.lo c.args.hi 1 (sym one) (follows_take (CompletesLeaf old) (CompletesLeaf old) (CompletesLeaf new) bytes 0 less (follows_none (CompletesLeaf old)) c.after.ensures.future) fits;
      goes = all_reached (ReachedBy old (Holds old)) (ReachedBy new (Holds old)) bytes 1 (omega arith)
          (reaches_take (ReachedBy old (Holds old)) (ReachedBy old (Holds old)) (ReachedBy new (Holds old)) bytes 0 less (reaches_none (ReachedBy old (Holds old))) (staged_reached old new (_ ∷ []) c.after.ensures.future c.after.ensures.goes (Holds old))) [] (reached_first old);
      reason = λ less. absurd (omega arith);
    }
