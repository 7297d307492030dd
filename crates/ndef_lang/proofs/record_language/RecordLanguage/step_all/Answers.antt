use Rattle.std.proofs.Common.{◌+◌, ◌-◌, arith}
use Rattle.ndef_lang.specs.StepLaws.{follows_none, reaches_none, passes_none, steps_refused}
use Rattle.ndef_lang.proofs.PlaceLemmas.{not_true}
use Rattle.ndef_lang.proofs.record_language.RecordLanguage.step_all.Goals as goal

pub loop-at-init : goal.loop-at-init
loop-at-init g c =
    let L = g.Self.RecordLanguage in
    let s = c.args.self.now in
    record {
      follows = follows_none (L.future s);
      reached = λ tnf name records profile. reaches_none (L.reached s tnf name records profile);
      fits = passes_none ((g.met.Self.RecordLanguage.exact s c.args.lo c.args.hi c.requires.small).0 c.requires.fits);
    }

pub returns-then-not-fits-clause-steps : goal.returns-then-not-fits-clause-steps
returns-then-not-fits-clause-steps g c =
    let L = g.Self.RecordLanguage in
    let at = c.loop-at.at in
    let lo = c.args.lo - (at + 1) in
    let hi = c.args.hi - (at + 1) in
    let inv = c.loop-at.invariant in
    steps_refused (L.future c.args.self.now) (L.future c.loop-at.self) (L.future c.step.new.self) c.args.bytes.now c.args.lo c.args.hi at
    c.loop-at-test.true inv.follows inv.fits c.step.ensures.future
    (λ p. not_true c.fits.result (L.fitting c.step.new.self lo hi) c.fits.ensures c.if-not-fits.true ((g.met.Self.RecordLanguage.exact c.step.new.self lo hi (omega arith)).1 p))
