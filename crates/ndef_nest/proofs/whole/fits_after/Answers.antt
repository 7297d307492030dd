use Rattle.std.proofs.Common.{IsTrue, sym, ◌∙◌, subst}
use Rattle.ndef_nest.specs.Machine.Phases.{asking, meets_span}
use Rattle.ndef_nest.proofs.WholeRecords.{after_passes}
use Rattle.ndef_nest.proofs.whole.fits_after.Goals as goal

pub returns : goal.returns
returns c h =
    after_passes (asking c.args.context.now c.args.demand) c.args.phase c.args.lo c.args.hi c.requires.suited c.requires.sound c.requires.small
    (subst (λ s. IsTrue (meets_span s c.args.lo c.args.hi)) c.span.ensures (sym c.meets.ensures ∙ h))
