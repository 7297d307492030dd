-- A handover carrier payload has one carrier as its value, and the payload written for a carrier has that value.
use Rattle.std.proofs.Common.{◌≡◌, ℕ, ◌-◌, ◌%◌, ◌<◌, ◌≤◌, List, [], ◌∷◌, length, take, drop, get_or, refl, sym, ◌∙◌, arith}
use Rattle.std.proofs.Math.Seq.{take-append_seam, drop-append_seam}
use Rattle.std.proofs.lemmas.List.{take_all, length-take-le}
use Rattle.ndef_format.specs.Records.{AreOctets}
use Rattle.ndef_format.specs.Handovers.{IsCarrier}
use Rattle.ndef_format.specs.Reasons.{NoReason}
use Rattle.ndef_format.specs.Octets.{IsOctet}
use Rattle.ndef_lang.specs.OctetLaws.{field_parts, octets_field}
use Rattle.ndef_types.specs.Decoding.{OneValue, EachHasValue, ValuesRoundTrip, WritesPayloads}
use Rattle.ndef_types.specs.Values.{CarrierValue, IsCarrierValue, StandsForCarrier, WritesCarrier, carrier_payload}
use Rattle.ndef_types.proofs.RoundTripLemmas.{round_trip}

-- ---- reading

-- the octets after two, as a slice shows them
after_two : (a b : ℕ) (s : List ℕ) → take (length (a ∷ b ∷ s) - 2) s ≡ s
after_two a b s = take_all (length (a ∷ b ∷ s) - 2) s (omega arith)

-- the type is within them
pub type_room : (payload : List ℕ) (n : ℕ) → IsCarrier payload → n ≡ get_or payload 1 0 → n ≤ length (take (length payload - 2) (drop 2 payload))
type_room [] n h e = absurd h
type_room (format ∷ []) n h e = absurd h.1
type_room (format ∷ k ∷ s) n h e = let p = field_parts IsOctet k AreOctets s h.1.1 in rw (after_two format k s) (omega (arith, p.within))

pub type_fits : (payload : List ℕ) → IsCarrier payload → get_or (drop 1 payload) 0 0 < length (drop 1 payload)
type_fits [] h = absurd h
type_fits (format ∷ []) h = absurd h.1
type_fits (format ∷ k ∷ s) h = let p = field_parts IsOctet k AreOctets s h.1.1 in omega (arith, p.within)

-- ---- laws

pub one_carrier : OneValue IsCarrier StandsForCarrier
one_carrier [] v w h x y = absurd x
one_carrier (format ∷ []) v w h x y = absurd x
one_carrier (format ∷ n ∷ s) v w h x y =
    let a : v.format ≡ w.format = sym x.0 ∙ y.0 in
    let b : v.kind ≡ w.kind = sym x.1 ∙ y.1 in
    let c : v.carried ≡ w.carried = sym x.2 ∙ y.2 in
    λ i. record { format = a i; kind = b i; carried = c i }

pub each_carrier : EachHasValue IsCarrier StandsForCarrier IsCarrierValue
each_carrier [] h = absurd h
each_carrier (format ∷ []) h = absurd h.1
each_carrier (format ∷ n ∷ s) h =
    let p = field_parts IsOctet n AreOctets s h.1.1 in (
      record { format = format % 8; kind = take n s; carried = drop n s },
      (record { format = omega arith; short = omega (arith, length-take-le n s p.within, h.1.0); kind = p.front; carried = p.rest }, (refl, refl, refl)),
    )

written : (v : CarrierValue) (payload : List ℕ) → IsCarrierValue v → WritesCarrier v payload → IsCarrier payload × StandsForCarrier payload v
written v payload h e =
    let set : IsCarrier (carrier_payload v) = (omega (arith, h.format), (h.short, octets_field IsOctet v.kind v.carried AreOctets h.kind h.carried)) in
    let stands : StandsForCarrier (carrier_payload v) v = (omega (arith, h.format), take-append_seam v.kind v.carried, drop-append_seam v.kind v.carried) in
    rw e (set, stands)

pub carrier_written : WritesPayloads IsCarrier IsCarrierValue WritesCarrier
carrier_written v payload h e = (written v payload h e).0

pub carriers_round_trip : ValuesRoundTrip IsCarrier (λ s b. NoReason) StandsForCarrier IsCarrierValue WritesCarrier
carriers_round_trip = round_trip IsCarrier (λ s b. NoReason) StandsForCarrier IsCarrierValue WritesCarrier written one_carrier
