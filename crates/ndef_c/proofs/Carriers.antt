-- The places of the parts of a handover carrier.
use Rattle.std.proofs.Common.{◌≡◌, ℕ, ◌+◌, ◌-◌, ◌%◌, ◌∷◌, [], take, drop, sym, refl, ◌∙◌, ap, arith, List, length, get_or, length-drop}
use Rattle.std.proofs.lemmas.List.{drop-drop, take_all, length-take-le}
use Rattle.ndef_format.specs.Records.{AreOctets}
use Rattle.ndef_format.specs.Handovers.{IsCarrier}
use Rattle.ndef_format.specs.Octets.{IsOctet}
use Rattle.ndef_lang.specs.OctetLaws.{field_parts}
use Rattle.ndef_types.specs.Values.{CarrierValue, StandsForCarrier}
use Rattle.ndef_c.specs.Walks.{Lies}

-- its parts, where the first n octets are those of the type
pub record Parts (payload : List ℕ) (n : ℕ) : Type 0 where
  pub carrier : CarrierValue
  pub stands : StandsForCarrier payload carrier
  pub kind : Lies payload 2 n carrier.kind
  pub carried : Lies payload (2 + n) (length payload - (2 + n)) carrier.carried

pub carrier_parts : (payload : List ℕ) (n : ℕ) → IsCarrier payload → n ≡ get_or payload 1 0 → Parts payload n
carrier_parts [] n h e = absurd h
carrier_parts (format ∷ []) n h e = absurd h.1
carrier_parts (format ∷ k ∷ s) n h e =
    let p = field_parts IsOctet k AreOctets s h.1.1 in
    let size = length-take-le k s p.within in
    let l = length-drop k s in
    rw e
    (record {
      carrier = record { format = format % 8; kind = take k s; carried = drop k s };
      stands = (refl, refl, refl);
      kind = record { within = omega (arith, p.within); are = refl; count_is = sym size };
      carried = record {
        within = omega (arith, p.within);
        are = ap (take (length (format ∷ k ∷ s) - (2 + k))) (sym (drop-drop k 2 (format ∷ k ∷ s))) ∙ take_all (length (format ∷ k ∷ s) - (2 + k)) (drop k s) (omega (arith, l));
        count_is = omega (arith, l);
      };
    })
