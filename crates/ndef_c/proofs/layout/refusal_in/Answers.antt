use Rattle.std.proofs.Common.{◌∙◌, ◌∷◌, ap, refl, subst, sym}
use Rattle.ndef_value.specs.SliceLaws.{each_octet}
use Rattle.ndef_c.specs.Layouts.{GoesOn, IsRefusedFirst, is_last, layout_of}
use Rattle.ndef_c.specs.declared.layout.Field.TheVariants.{Utf8}
use Rattle.ndef_c.proofs.Layouts.{goes_further, in_order, raised_first, rest_laid, text_refused}
use Rattle.ndef_c.proofs.layout.refusal_in.Goals as goal

pub returns-in-Rest-clause-none : goal.returns-in-Rest-clause-none
returns-in-Rest-clause-none c =
    let more = layout_of c.in-Some.more.now in
    rest_laid (layout_of c.args.fields.now) (layout_of c.loop-field.left.now) more c.args.payload.now c.loop-field.rest.now (each_octet _ c.type_inv.payload) c.loop-field.invariant.goes
    (c.in-Some.ensures.some ∙ ap (λ f. f ∷ more) c.in-Rest.is)

pub returns-in-Utf8-clause-some : goal.returns-in-Utf8-clause-some
returns-in-Utf8-clause-some c =
    let more = layout_of c.in-Some.more.now in
    let is = c.in-Some.ensures.some ∙ ap (λ f. f ∷ more) c.in-Utf8.is ∙ ap (λ l. Utf8 ∷ l) (c.in-Some.ensures.last (ap is_last c.in-Utf8.is)) in
    text_refused (layout_of c.args.fields.now) (layout_of c.loop-field.left.now) c.args.payload.now c.loop-field.rest.now _ c.text_refusal.result c.loop-field.invariant.goes is refl c.text_refusal.ensures.some

pub returns-in_default-after_field : goal.returns-in_default-after_field
returns-in_default-after_field c =
    let left = c.loop-field.left.now in
    let rest = c.loop-field.rest.now in
    record {
      none = tt;
      some = raised_first (layout_of c.args.fields.now) (layout_of left) c.args.payload.now rest _ (in_order left c.loop-field.invariant.layout.1) c.loop-field.invariant.goes
          (subst (λ l. IsRefusedFirst l rest) (sym c.in-Some.ensures.some) c.in_default-after_field.ensures.none) refl;
    }

pub loop-field-preserved : goal.loop-field-preserved
loop-field-preserved c =
    let more = layout_of c.in-Some.more.now in
    let rest = c.loop-field.rest.now in
    let after = c.in-Some-after_field.after.now in
    record {
      layout = c.in-Some.ensures.more;
      goes = goes_further (layout_of c.args.fields.now) (layout_of c.loop-field.left.now) more c.args.payload.now rest after c.loop-field.invariant.goes
          (subst (λ l. GoesOn l more rest after) (sym c.in-Some.ensures.some) c.in-Some-after_field.ensures.some);
    }
