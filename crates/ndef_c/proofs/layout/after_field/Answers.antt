use Rattle.std.proofs.Common.{◌∙◌, arith, sym, true≢false}
use Rattle.ndef_value.specs.SliceLaws.{each_octet}
use Rattle.ndef_c.specs.Layouts.{layout_of}
use Rattle.ndef_c.proofs.Layouts.{counted_goes, counted_refused, in_order, octets_go, within_goes}
use Rattle.ndef_c.proofs.layout.after_field.Goals.{then-after-count-via-then-after-count, then-after-count-via-else-after-count+then-not-fits}
use Rattle.ndef_c.proofs.layout.after_field.Goals as goal

pub returns-then-after-count-clause-none : goal.returns-then-after-count-clause-none
returns-then-after-count-clause-none c =
    counted_refused c.args.field (layout_of c.args.more.now) c.args.octets.now c.from-count.result c.in-Counted.is (in_order c.args.more.now c.requires.more.1) c.from-count.ensures c.requires.fits
    (elim c.then-after-count.branch [
      | then-after-count-via-then-after-count w ↦ λ l fits. absurd (omega (arith, l, w.if-after-count.true))
      | then-after-count-via-else-after-count+then-not-fits w ↦ λ l fits. absurd (true≢false (sym (w.fits.ensures.1 fits) ∙ w.if-not-fits.true))
    ])

pub returns-in-Octets-clause-some : goal.returns-in-Octets-clause-some
returns-in-Octets-clause-some c =
    octets_go c.args.field c.in-Octets.count (layout_of c.args.more.now) c.args.octets.now c.in-Octets.is (each_octet _ c.type_inv.octets) c.requires.fits

pub returns-else-most-octets-clause-some : goal.returns-else-most-octets-clause-some
returns-else-most-octets-clause-some c =
    within_goes c.args.field c.in-Within.least c.in-Within.most (layout_of c.args.more.now) c.args.octets.now c.in-Within.is c.requires.fits
    (omega (arith, c.if-octets-least.false)) (omega (arith, c.if-most-octets.false))

pub returns-else-not-fits-clause-some : goal.returns-else-not-fits-clause-some
returns-else-not-fits-clause-some c =
    counted_goes c.args.field (layout_of c.args.more.now) c.args.octets.now c.from-count.result c.in-Counted.is (each_octet _ c.type_inv.octets) c.from-count.ensures c.requires.fits
    (omega (arith, c.if-after-count.false)) (c.fits.ensures.0 c.if-not-fits.false)
