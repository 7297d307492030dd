use Rattle.std.proofs.Common.{◌≡◌, ℕ, List, ◌+◌, ◌-◌, ◌<◌, ◌++◌, ◌∙◌, true, [], ◌∷◌, sym, subst, arith, length, take}
use Rattle.std.proofs.lemmas.List.{append-nil}
use Rattle.ndef_lang.specs.declared.leaf.Leaf.{Leaf}
use Rattle.ndef_lang.specs.declared.utf8.Utf8Lang.{Utf8Lang}
use Rattle.ndef_format.specs.declared.reason.Reason.TheVariants as reasons
use Rattle.ndef_lang.specs.LengthLaws.{lengths_fit}
use Rattle.ndef_lang.specs.Lengths.{meets}
use Rattle.ndef_lang.specs.Language.{Continues, PassesBetween, Reaches, StepsFront}
use Rattle.ndef_lang.specs.StepLaws.{rest, follows_none, reaches_none, passes_none, follows_take, reaches_take, steps_refused, follows_rest, reaches_rest, front_passes, steps_through, all_reached, steps_on, reaches_on, reason_on, rest_length}
use Rattle.ndef_lang.specs.Machine.Utf8.{CompletesUtf8}
use Rattle.ndef_lang.specs.declared.leaf.Leaf.TheVariants.{Utf8}
use Rattle.ndef_lang.specs.Machine.Leaf.{CompletesLeaf, GoesOn, Holds, ReachedBy, leaf_lengths, leaf_reason}
use Rattle.ndef_lang.specs.Machine.LeafLaws.{are_leaf_lengths}
use Rattle.ndef_lang.proofs.PlaceLemmas.{not_true}
use Rattle.ndef_lang.proofs.StageLemmas.{text_goes, reached_first, staged_reached, staged_reason, utf8_staged_reason}
use Rattle.ndef_lang.proofs.leaf.Leaf.take.Goals as goal

pub loop-at-init : goal.loop-at-init
loop-at-init c =
    let s = c.args.self.now in
    record {
      within = omega arith;
      follows = follows_none (CompletesLeaf s);
      reached = reaches_none (ReachedBy s (Holds s));
      fits = passes_none ((lengths_fit (CompletesLeaf s) (leaf_lengths s) c.args.lo c.args.hi (are_leaf_lengths s)).0 c.requires.fits);
    }

pub loop-at-preserved : goal.loop-at-preserved
loop-at-preserved c =
    let old = c.args.self.now in
    let mid = c.loop-at.self in
    let front = c.take_front-at.new.self in
    let new = c.after.result in
    let bytes = c.args.bytes.now in
    let n = c.take_front-at.result in
    let at = c.loop-at.at + n in
    let inv = c.loop-at.invariant in
    let whole = c.take_front-at.ensures.front in
    let within = whole.within in
    let less : at < length bytes = omega (arith, rest_length bytes c.loop-at.at) in
    record {
      within = omega arith;
      follows = follows_take (CompletesLeaf old) (CompletesLeaf front) (CompletesLeaf new) bytes at less (follows_rest (CompletesLeaf old) (CompletesLeaf mid) (CompletesLeaf front) bytes c.loop-at.at n inv.follows whole.stepped) c.after.ensures.future;
      reached = reaches_take (ReachedBy old (Holds old)) (ReachedBy front (Holds old)) (ReachedBy new (Holds old)) bytes at less
          (reaches_rest (ReachedBy old (Holds old)) (ReachedBy mid (Holds old)) (ReachedBy front (Holds old)) bytes c.loop-at.at n inv.reached
          (staged_reached mid front (take n (rest bytes c.loop-at.at)) whole.stepped (λ p. c.take_front-at.ensures.goes) (Holds old))) (staged_reached front new (_ ∷ []) c.after.ensures.future c.after.ensures.goes (Holds old));
      fits = (lengths_fit (CompletesLeaf new) (leaf_lengths new) (c.args.lo - (at + 1)) (c.args.hi - (at + 1)) (are_leaf_lengths new)).0 (subst (λ l. meets l (c.args.lo - (at + 1)) (c.args.hi - (at + 1)) ≡ true) c.lengths.ensures (sym c.meet.ensures.value ∙ c.if-not-meet.false));
    }

pub returns-then-not-meet : goal.returns-then-not-meet
returns-then-not-meet c =
    let old = c.args.self.now in
    let mid = c.loop-at.self in
    let front = c.take_front-at.new.self in
    let new = c.after.result in
    let bytes = c.args.bytes.now in
    let n = c.take_front-at.result in
    let at = c.loop-at.at + n in
    let lo = c.args.lo - (at + 1) in
    let hi = c.args.hi - (at + 1) in
    let inv = c.loop-at.invariant in
    let whole = c.take_front-at.ensures.front in
    let within = whole.within in
    let less : at < length bytes = omega (arith, rest_length bytes c.loop-at.at) in
    let follows = follows_rest (CompletesLeaf old) (CompletesLeaf mid) (CompletesLeaf front) bytes c.loop-at.at n inv.follows whole.stepped in
    let fits = front_passes (CompletesLeaf mid) (CompletesLeaf front) bytes c.args.lo c.args.hi c.loop-at.at n c.requires.enough inv.within whole inv.fits in
    let come : Reaches (ReachedBy old (Holds old)) (ReachedBy front (Holds old)) (take at bytes) = reaches_rest (ReachedBy old (Holds old)) (ReachedBy mid (Holds old)) (ReachedBy front (Holds old)) bytes c.loop-at.at n inv.reached
    (staged_reached mid front (take n (rest bytes c.loop-at.at)) whole.stepped (λ p. c.take_front-at.ensures.goes) (Holds old)) in
    let met : c.meet.result ≡ meets (leaf_lengths new) lo hi = subst (λ l. c.meet.result ≡ meets l lo hi) c.lengths.ensures c.meet.ensures.value in
    let refused : PassesBetween (CompletesLeaf new) lo hi → ⊥ = λ p. not_true c.meet.result (meets (leaf_lengths new) lo hi) met c.if-not-meet.true ((lengths_fit (CompletesLeaf new) (leaf_lengths new) lo hi (are_leaf_lengths new)).1 p) in
    record {
      steps = steps_refused (CompletesLeaf old) (CompletesLeaf front) (CompletesLeaf new) bytes c.args.lo c.args.hi at less follows fits c.after.ensures.future refused;
      goes = reaches_take (ReachedBy old (Holds old)) (ReachedBy front (Holds old)) (ReachedBy new (Holds old)) bytes at less come (staged_reached front new (_ ∷ []) c.after.ensures.future c.after.ensures.goes (Holds old)) [] (reached_first old);
      reason = λ less. staged_reason front _ (leaf_reason new) c.after.ensures.reason (Holds old) (take at bytes) (come [] (reached_first old)) (fits.rest, fits.passed);
    }

pub returns-then-at-bytes : goal.returns-then-at-bytes
returns-then-at-bytes c =
    let old = c.args.self.now in
    let mid = c.loop-at.self in
    let front = c.take_front-at.new.self in
    let bytes = c.args.bytes.now in
    let n = c.take_front-at.result in
    let at = c.loop-at.at + n in
    let inv = c.loop-at.invariant in
    let whole = c.take_front-at.ensures.front in
    let all : at ≡ length bytes = c.if-at-bytes.true in
    let follows = follows_rest (CompletesLeaf old) (CompletesLeaf mid) (CompletesLeaf front) bytes c.loop-at.at n inv.follows whole.stepped in
    let fits = front_passes (CompletesLeaf mid) (CompletesLeaf front) bytes c.args.lo c.args.hi c.loop-at.at n c.requires.enough inv.within whole inv.fits in
    record {
      steps = steps_through (CompletesLeaf old) (CompletesLeaf front) bytes c.args.lo c.args.hi at all follows fits;
      goes = all_reached (ReachedBy old (Holds old)) (ReachedBy front (Holds old)) bytes at (omega arith)
          (reaches_rest (ReachedBy old (Holds old)) (ReachedBy mid (Holds old)) (ReachedBy front (Holds old)) bytes c.loop-at.at n inv.reached
          (staged_reached mid front (take n (rest bytes c.loop-at.at)) whole.stepped (λ p. c.take_front-at.ensures.goes) (Holds old))) [] (reached_first old);
      reason = λ less. absurd (omega arith);
    }

-- the text that goes on behind the octets at the front
text_follows : (old mid front : Leaf) (text : Utf8Lang) (bytes : List ℕ) (at n : ℕ) → Continues (CompletesLeaf old) (CompletesLeaf mid) (take at bytes)
    → StepsFront (CompletesLeaf mid) (CompletesLeaf front) (rest bytes at) n → Continues (CompletesLeaf front) (CompletesUtf8 text) []
    → Continues (CompletesLeaf old) (CompletesUtf8 text) (take (at + n) bytes)
text_follows old mid front text bytes at n f w g r =
    let t = follows_rest (CompletesLeaf old) (CompletesLeaf mid) (CompletesLeaf front) bytes at n f w.stepped r in
    let k = g r in
    (λ x. t.0 (k.0 x), λ x. k.1 (t.1 x))

text_fits : (front : Leaf) (text : Utf8Lang) (lo hi : ℕ) → Continues (CompletesLeaf front) (CompletesUtf8 text) [] → PassesBetween (CompletesLeaf front) lo hi
    → PassesBetween (CompletesUtf8 text) lo hi
text_fits front text lo hi g p = record { rest = p.rest; passed = (g p.rest).1 p.passed; least = p.least; most = p.most }

text_reached : (old mid front : Leaf) (text : Utf8Lang) (bytes : List ℕ) (at n : ℕ) → Reaches (ReachedBy old (Holds old)) (ReachedBy mid (Holds old)) (take at bytes)
    → StepsFront (CompletesLeaf mid) (CompletesLeaf front) (rest bytes at) n → GoesOn (Holds mid) (take n (rest bytes at)) front
    → Continues (CompletesLeaf front) (CompletesUtf8 text) [] → GoesOn (Holds front) [] (Utf8 text)
    → Reaches (ReachedBy old (Holds old)) (ReachedBy (Utf8 text) (Holds old)) (take (at + n) bytes)
text_reached old mid front text bytes at n come w goes g k s h =
    let t = reaches_rest (ReachedBy old (Holds old)) (ReachedBy mid (Holds old)) (ReachedBy front (Holds old)) bytes at n come
    (staged_reached mid front (take n (rest bytes at)) w.stepped (λ p. goes) (Holds old)) in
    subst (ReachedBy (Utf8 text) (Holds old)) (append-nil (s ++ take (at + n) bytes))
    (staged_reached front (Utf8 text) [] g (λ p. k) (Holds old) (s ++ take (at + n) bytes) (t s h))

pub take-more-requires-clause-fits : goal.take-more-requires-clause-fits
take-more-requires-clause-fits c =
    let mid = c.loop-at.self in
    let front = c.take_front-at.new.self in
    let at = c.loop-at.at + c.take_front-at.result in
    let inv = c.loop-at.invariant in
    text_fits front c.in-Some.text (c.args.lo - at) (c.args.hi - at) c.in-Some.ensures.future
    (front_passes (CompletesLeaf mid) (CompletesLeaf front) c.args.bytes.now c.args.lo c.args.hi c.loop-at.at c.take_front-at.result c.requires.enough inv.within c.take_front-at.ensures.front inv.fits)

pub returns-in-Some-clause-steps : goal.returns-in-Some-clause-steps
returns-in-Some-clause-steps c =
    let n = c.take_front-at.result in
    let whole = c.take_front-at.ensures.front in
    let within = whole.within in
    steps_on (CompletesLeaf c.args.self.now) (CompletesUtf8 c.in-Some.text) (CompletesUtf8 c.take-more.new.self) c.args.bytes.now c.args.lo c.args.hi (c.loop-at.at + n) c.take-more.result (omega (arith, rest_length c.args.bytes.now c.loop-at.at))
    (text_follows c.args.self.now c.loop-at.self c.take_front-at.new.self c.in-Some.text c.args.bytes.now c.loop-at.at n c.loop-at.invariant.follows whole c.in-Some.ensures.future) c.take-more.ensures

pub returns-in-Some-clause-goes : goal.returns-in-Some-clause-goes
returns-in-Some-clause-goes c =
    let n = c.take_front-at.result in
    let at = c.loop-at.at + n in
    let old = c.in-Some.text in
    let new = c.take-more.new.self in
    let more = c.take-more.result in
    let first = c.args.self.now in
    let front = take (more + 1) (rest c.args.bytes.now at) in
    let before = text_reached first c.loop-at.self c.take_front-at.new.self old c.args.bytes.now c.loop-at.at n c.loop-at.invariant.reached c.take_front-at.ensures.front c.take_front-at.ensures.goes c.in-Some.ensures.future c.in-Some.ensures.goes in
    reaches_on (ReachedBy first (Holds first)) (ReachedBy (Utf8 old) (Holds first)) (ReachedBy (Utf8 new) (Holds first)) c.args.bytes.now at more before
    (staged_reached (Utf8 old) (Utf8 new) front c.take-more.ensures.stepped (λ p. text_goes reasons.Utf8 (CompletesUtf8 old) (CompletesUtf8 new) front c.take-more.ensures.stepped) (Holds first)) [] (reached_first first)

pub returns-in-Some-clause-reason : goal.returns-in-Some-clause-reason
returns-in-Some-clause-reason c less =
    let n = c.take_front-at.result in
    let at = c.loop-at.at + n in
    let old = c.in-Some.text in
    let more = c.take-more.result in
    let first = c.args.self.now in
    let bytes = c.args.bytes.now in
    let left = rest_length bytes at in
    let before = text_reached first c.loop-at.self c.take_front-at.new.self old bytes c.loop-at.at n c.loop-at.invariant.reached c.take_front-at.ensures.front c.take_front-at.ensures.goes c.in-Some.ensures.future c.in-Some.ensures.goes [] (reached_first first) in
    reason_on (Holds first) _ bytes [] at more (utf8_staged_reason old c.take-more.new.self (rest bytes at) (c.args.lo - at) (c.args.hi - at) more c.take-more.ensures (omega arith) (Holds first) (take at bytes) before)

pub returns-clause-goes : goal.returns-clause-goes
returns-clause-goes c =
    let old = c.args.self.now in
    all_reached (ReachedBy old (Holds old)) (ReachedBy c.loop-at.self (Holds old)) c.args.bytes.now c.loop-at.at (omega arith) c.loop-at.invariant.reached [] (reached_first old)
