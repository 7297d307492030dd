use Rattle.std.proofs.Common.{◌∙◌, ap, arith, subst, sym}
use Rattle.ndef_types.specs.Values.{StandsForAc, power_code}
use Rattle.ndef_c.proofs.alternative.alternative_at.Goals as goal

pub returns : goal.returns
returns c =
    let v = c.alternatives_are_exact.ensures.exact.each c.args.payload.now c.requires.alternative in
    let stands : StandsForAc c.new-parts.result v.0 = subst (λ s. StandsForAc s v.0) (sym c.new-parts.ensures) v.1.1 in
    let count = c.auxiliary_count.ensures.value v.0 stands in
    record {
      in_set = c.requires.alternative;
      short = c.requires.short;
      alternative = v.0;
      stands = v.1.1;
      power = c.from.ensures ∙ c.code.ensures ∙ ap power_code (c.power.ensures v.0 stands);
      references_are = omega (arith, count);
    }
