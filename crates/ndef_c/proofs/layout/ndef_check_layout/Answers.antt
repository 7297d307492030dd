use Rattle.std.proofs.Common.{◌∙◌, arith, inl, length, refl, sym, true≢false}
use Rattle.ndef_c.specs.Layouts.{layout_of}
use Rattle.ndef_c.proofs.Layouts.{in_order, no_length, too_long}
use Rattle.ndef_c.proofs.layout.ndef_check_layout.Goals.{then-payload-via-then-payload, then-payload-via-else-payload+then-not-fits}
use Rattle.ndef_c.proofs.layout.ndef_check_layout.Goals as goal

pub returns-then-payload-clause-refused : goal.returns-then-payload-clause-refused
returns-then-payload-clause-refused c = λ refused.
    let fields = c.args.fields.now in
    let order = in_order fields (c.may_be_layout.ensures.0 c.if-not-may_be_layout.false).1 in
    inl (
      elim c.then-payload.branch [
        | then-payload-via-then-payload w ↦ too_long (layout_of fields) (length c.args.payload.now) (omega (arith, w.if-payload.true))
        | then-payload-via-else-payload+then-not-fits w ↦ no_length (layout_of fields) (length c.args.payload.now) order (λ fits. true≢false (sym (w.fits.ensures.1 fits) ∙ w.if-not-fits.true))
      ],
      refl,
      c.from.ensures ∙ c.number.ensures.value,
      refl,
    )
