use Rattle.std.proofs.Common.{refl, sym, subst, ap, get_or, length, ◌∙◌, ◌+◌}
use Rattle.ndef_types.specs.Values.{StandsForCarrier}
use Rattle.ndef_c.specs.Walks.{Lies}
use Rattle.ndef_c.proofs.Carriers.{carrier_parts}
use Rattle.ndef_c.proofs.carrier.carrier_at.Goals as goal

pub returns : goal.returns
returns c =
    let payload = c.args.payload.now in
    let p = carrier_parts payload (get_or payload 1 0) c.requires.carrier refl in
    let stands : StandsForCarrier c.new-parts.result p.carrier = subst (λ s. StandsForCarrier s p.carrier) (sym c.new-parts.ensures) p.stands in
    let kind = p.kind.count_is ∙ sym (ap length (c.kind-type_length.ensures p.carrier stands)) in
    let carried = p.carried.count_is ∙ sym (ap length (c.carried.ensures p.carrier stands)) in
    record {
      in_set = c.requires.carrier;
      short = c.requires.short;
      carrier = p.carrier;
      stands = p.stands;
      format = c.from.ensures ∙ c.format.ensures.value p.carrier stands;
      kind = subst (λ n. Lies payload 2 n p.carrier.kind) kind p.kind;
      carried = subst (λ n. Lies payload (2 + n) (length c.carried.result.now) p.carrier.carried) kind (subst (λ m. Lies payload (2 + get_or payload 1 0) m p.carrier.carried) carried p.carried);
      kind_place = refl;
      carried_place = refl;
    }
