-- An alternative carrier payload has one value, and the payload that is written for a value has that value.
use Rattle.std.proofs.Common.{◌≡◌, ℕ, zero, suc, ◌%◌, ◌<◌, List, [], ◌∷◌, ◌++◌, length, take, drop, refl, sym, ◌∙◌, ap, subst, arith, append_assoc}
use Rattle.std.proofs.Math.Seq.{take-append_seam, drop-append_seam}
use Rattle.std.proofs.lemmas.List.{length-take-le}
use Rattle.std.specs.List.{AllByRecursion, flat_map}
use Rattle.ndef_format.specs.Records.{AreOctets}
use Rattle.ndef_format.specs.Handovers.{IsAlternative, AreReferences, AreAuxiliary}
use Rattle.ndef_format.specs.Reasons.{NoReason}
use Rattle.ndef_format.specs.Octets.{IsOctet}
use Rattle.ndef_lang.specs.OctetLaws.{FieldParts, field_parts, octets_field}
use Rattle.ndef_types.specs.declared.power.Power.{Power}
use Rattle.ndef_types.specs.declared.power.Power.TheVariants.{Inactive, Active, Activating, Unknown}
use Rattle.ndef_types.specs.Decoding.{OneValue, EachHasValue, ValuesRoundTrip, WritesPayloads}
use Rattle.ndef_types.specs.Values.{AcValue, IsAcValue, IsReference, StandsForAc, StandForAuxiliary, StandForNames, WritesAc, ac_payload, counted, power_code}
use Rattle.ndef_types.proofs.RoundTripLemmas.{round_trip}

-- ---- one value

-- the power state of a number
abbrev power_of : ℕ → Power
power_of zero = Inactive
power_of (suc zero) = Active
power_of (suc (suc zero)) = Activating
power_of (suc (suc (suc n))) = Unknown

power_of_code : (power : Power) → power_of (power_code power) ≡ power
power_of_code Inactive = refl
power_of_code Active = refl
power_of_code Activating = refl
power_of_code Unknown = refl

same_power : (a b : Power) → power_code a ≡ power_code b → a ≡ b
same_power a b e = sym (power_of_code a) ∙ ap power_of e ∙ power_of_code b

one_names : (n : ℕ) (s : List ℕ) (a b : List (List ℕ)) (p q : List ℕ) → StandForNames n s a p → StandForNames n s b q → (a ≡ b) × (p ≡ q)
one_names zero s a b p q x y = (x.0 ∙ sym y.0, sym x.1 ∙ y.1)
one_names (suc n) [] a b p q x y = absurd x
one_names (suc n) (k ∷ s) [] b p q x y = absurd x
one_names (suc n) (k ∷ s) (i ∷ a) [] p q x y = absurd y
one_names (suc n) (k ∷ s) (i ∷ a) (j ∷ b) p q x y = let t = one_names n (drop k s) a b p q x.1 y.1 in let e : i ≡ j = sym x.0 ∙ y.0 in (λ z. e z ∷ t.0 z, t.1)

one_auxiliary : (s : List ℕ) (a b : List (List ℕ)) (p q : List ℕ) → StandForAuxiliary s a p → StandForAuxiliary s b q → (a ≡ b) × (p ≡ q)
one_auxiliary [] a b p q x y = absurd x
one_auxiliary (n ∷ s) a b p q x y = one_names n s a b p q x y

pub same_ac : (s : List ℕ) (v w : AcValue) → StandsForAc s v → StandsForAc s w → v ≡ w
same_ac [] v w x y = absurd x
same_ac (f ∷ []) v w x y = absurd x
same_ac (f ∷ n ∷ s) v w x y =
    let a : v.power ≡ w.power = same_power v.power w.power (sym x.0 ∙ y.0) in
    let b : v.reference ≡ w.reference = sym x.1 ∙ y.1 in
    let c = one_auxiliary (drop n s) v.auxiliary w.auxiliary v.rest w.rest x.2 y.2 in
    λ i. record { power = a i; reference = b i; auxiliary = c.0 i; rest = c.1 i }

pub one_ac : OneValue IsAlternative StandsForAc
one_ac s v w h x y = same_ac s v w x y

-- ---- each payload has a value

code_of_power : (n : ℕ) → n < 4 → n ≡ power_code (power_of n)
code_of_power zero l = refl
code_of_power (suc zero) l = refl
code_of_power (suc (suc zero)) l = refl
code_of_power (suc (suc (suc zero))) l = refl
code_of_power (suc (suc (suc (suc n)))) l = absurd (omega arith)

-- the names and the rest for which references stand
record HasNames (n : ℕ) (s : List ℕ) : Type 0 where
  names : List (List ℕ)
  rest : List ℕ
  stand : StandForNames n s names rest
  count : length names ≡ n
  references : AllByRecursion IsReference names
  octets : AreOctets rest

each_names : (n : ℕ) (s : List ℕ) → AreReferences n s → HasNames n s
each_names zero s h = record { names = []; rest = s; stand = (refl, refl); count = refl; references = tt; octets = h }
each_names (suc n) [] h = absurd h
each_names (suc n) (k ∷ s) h =
    let p = field_parts IsOctet k (AreReferences n) s h.1 in
    let later = each_names n (drop k s) p.rest in
    record {
      names = take k s ∷ later.names;
      rest = later.rest;
      stand = (refl, later.stand);
      count = ap suc later.count;
      references = ((omega (arith, length-take-le k s p.within, h.0), p.front), later.references);
      octets = later.octets;
    }

pub each_ac : EachHasValue IsAlternative StandsForAc IsAcValue
each_ac [] h = absurd h
each_ac (octet ∷ []) h = absurd h.1
each_ac (octet ∷ n ∷ s) h = with_auxiliary (drop n s) refl p.rest
  where
    p : FieldParts IsOctet n AreAuxiliary s
    p = field_parts IsOctet n AreAuxiliary s h.1.1

    with_auxiliary : (octets : List ℕ) → drop n s ≡ octets → AreAuxiliary octets → (v : AcValue) × (IsAcValue v × StandsForAc (octet ∷ n ∷ s) v)
    with_auxiliary [] e k = absurd k
    with_auxiliary (m ∷ t) e k =
        let has = each_names m t k.1 in
        let v : AcValue = record { power = power_of (octet % 4); reference = take n s; auxiliary = has.names; rest = has.rest } in (
          v,
          (
            record {
              reference = (omega (arith, length-take-le n s p.within, h.1.0), p.front);
              few = omega (arith, has.count, k.0);
              auxiliary = has.references;
              rest = has.octets;
            },
            (code_of_power (octet % 4) (omega arith), refl, rw e has.stand),
          ),
        )

-- ---- what is written

names_written : (names : List (List ℕ)) (rest : List ℕ) → AllByRecursion IsReference names → AreOctets rest
    → AreReferences (length names) (flat_map counted names ++ rest) × StandForNames (length names) (flat_map counted names ++ rest) names rest
names_written [] rest h k = (k, (refl, refl))
names_written (x ∷ names) rest h k =
    let later = names_written names rest h.1 k in
    let tail = flat_map counted names ++ rest in
    let e : (x ++ flat_map counted names) ++ rest ≡ x ++ tail = append_assoc x (flat_map counted names) rest in
    rw e ((h.0.0, octets_field IsOctet x tail (AreReferences (length names)) h.0.1 later.0), (take-append_seam x tail, rw drop-append_seam later.1))

power_small : (p : Power) → power_code p < 4
power_small Inactive = omega arith
power_small Active = omega arith
power_small Activating = omega arith
power_small Unknown = omega arith

ac_written : (v : AcValue) (payload : List ℕ) → IsAcValue v → WritesAc v payload → IsAlternative payload × StandsForAc payload v
ac_written v payload h e =
    let later = names_written v.auxiliary v.rest h.auxiliary h.rest in
    let tail = length v.auxiliary ∷ (flat_map counted v.auxiliary ++ v.rest) in
    let small = power_small v.power in
    let set : IsAlternative (ac_payload v) = (omega arith, (h.reference.0, octets_field IsOctet v.reference tail AreAuxiliary h.reference.1 (h.few, later.0))) in
    let stands : StandsForAc (ac_payload v) v = (omega arith, take-append_seam v.reference tail, subst (λ d. StandForAuxiliary d v.auxiliary v.rest) (sym (drop-append_seam v.reference tail)) later.1) in
    rw e (set, stands)

pub payload_written : WritesPayloads IsAlternative IsAcValue WritesAc
payload_written v payload h e = (ac_written v payload h e).0

pub acs_round_trip : ValuesRoundTrip IsAlternative (λ s b. NoReason) StandsForAc IsAcValue WritesAc
acs_round_trip = round_trip IsAlternative (λ s b. NoReason) StandsForAc IsAcValue WritesAc ac_written one_ac
