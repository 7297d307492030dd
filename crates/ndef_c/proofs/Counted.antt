-- References within some bytes, each after its length, and the payload of an alternative carrier that has them.
use Rattle.std.proofs.Common.{◌≡◌, ℕ, zero, suc, ◌+◌, ◌*◌, ◌<◌, ◌≤◌, ◌^◌, List, [], ◌∷◌, ◌++◌, take, drop, get_or, map, refl, sym, subst, ◌∙◌, ap, ap₂, arith, length, length-append, length-drop, append-nil}
use Rattle.std.specs.List.{AllByRecursion, flat_map}
use Rattle.std.proofs.lemmas.List.Elements.{recursion_from_All}
use Rattle.ndef_value.specs.ListLaws.{octets_front}
use Rattle.ndef_value.specs.SliceLaws.{octets_drop}
use Rattle.ndef_format.specs.Records.{AreOctets}
use Rattle.std.proofs.lemmas.List.{length-map, length-take-le, take-append-drop, take_more}
use Rattle.std.proofs.lemmas.List.Folds.{flat_map-map}
use Rattle.std.proofs.lemmas.Grind.{flat_map-append}
use Rattle.std.specs.Prelude.{Ok}
use Rattle.ndef_format.specs.Handovers.{IsAlternative}
use Rattle.ndef_format.specs.Reasons.{NoReason}
use Rattle.ndef_types.specs.Decoding.{AreExact, WritesPayloads}
use Rattle.ndef_types.specs.Values.{AcValue, IsAcValue, IsReference, StandsForAc, WritesAc, ac_payload, counted, power_code}
use Rattle.ndef_types.specs.declared.power.Power.{Power}
use Rattle.ndef_types.specs.declared.power.Power.TheVariants.{Inactive, Active, Activating, Unknown}
use Rattle.ndef_c.specs.AlternativeWrites.{GivesAlternative, IsAlternativeOf, MayBeAlternative, MayBeReference, WritesAlternative, counted_part, part_of}
use Rattle.ndef_c.specs.Contents.{alternative_payload}
use Rattle.ndef_c.specs.Buffers.{Gives}
use Rattle.ndef_c.specs.declared.part.NdefPart.{NdefPart}

pub part_length : (bytes : List ℕ) (part : NdefPart) → MayBeReference (length bytes) part → length (part_of bytes part) ≡ part.length
part_length bytes part h = let n = length-drop part.at bytes in let w = h.0 in length-take-le part.length (drop part.at bytes) (omega (arith, n, w))

pub counted_length : (bytes : List ℕ) (part : NdefPart) → MayBeReference (length bytes) part → length (counted_part bytes part) ≡ 1 + part.length
counted_length bytes part h = let e = part_length bytes part h in omega (arith, e)

-- a reference after its length, put together
pub counted_is : (bytes from : List ℕ) (part : NdefPart) → MayBeReference (length bytes) part → from ≡ drop part.at bytes → (part.length ∷ []) ++ take part.length from ≡ counted_part bytes part
counted_is bytes from part h e = ap₂ (λ n x. n ∷ x) (sym (part_length bytes part h)) (ap (take part.length) e)

-- one more of some lists, joined
pub joined_more : {X : Type 0} (f : X → List ℕ) (xs : List X) (i : ℕ) (d : X) → i < length xs → flat_map f (take i xs) ++ f (get_or xs i d) ≡ flat_map f (take (i + 1) xs)
joined_more f xs i d h =
    let e = flat_map-append f (take i xs) (get_or xs i d ∷ []) in
    ap (λ x. flat_map f (take i xs) ++ x) (sym (append-nil (f (get_or xs i d)))) ∙ sym e ∙ ap (flat_map f) (sym (take_more xs i d h))

-- ---- the alternative carrier

power_named : ℕ → Power
power_named zero = Inactive
power_named (suc zero) = Active
power_named (suc (suc zero)) = Activating
power_named _ = Unknown

code_named : (n : ℕ) → n < 4 → power_code (power_named n) ≡ n
unfolding power_named
code_named zero h = refl
code_named (suc zero) h = refl
code_named (suc (suc zero)) h = refl
code_named (suc (suc (suc n))) h = omega (arith, h)

pub alternative_of : (power : ℕ) (bytes : List ℕ) (reference : NdefPart) (auxiliary : List NdefPart) → AcValue
alternative_of power bytes reference auxiliary = record { power = power_named power; reference = part_of bytes reference; auxiliary = map (part_of bytes) auxiliary; rest = [] }

pub part_octets : (bytes : List ℕ) (part : NdefPart) → AreOctets bytes → AreOctets (part_of bytes part)
part_octets bytes part a =
    let following = octets_drop part.at bytes a in
    octets_front (part_of bytes part) (drop part.length (drop part.at bytes)) (subst AreOctets (sym (take-append-drop part.length (drop part.at bytes))) following)

part_is : (bytes : List ℕ) (part : NdefPart) → AreOctets bytes → MayBeReference (length bytes) part → IsReference (part_of bytes part)
part_is bytes part a h = let n = part_length bytes part h in let w = h.1 in (omega (arith, n, w), part_octets bytes part a)

parts_are : (bytes : List ℕ) (parts : List NdefPart) → AreOctets bytes → AllByRecursion (MayBeReference (length bytes)) parts → AllByRecursion IsReference (map (part_of bytes) parts)
parts_are bytes [] a h = tt
parts_are bytes (part ∷ parts) a h = (part_is bytes part a h.0, parts_are bytes parts a h.1)

pub is_alternative_of : (power : ℕ) (bytes : List ℕ) (reference : NdefPart) (auxiliary : List NdefPart) → AreOctets bytes
    → MayBeAlternative power bytes (reference ∷ auxiliary) → IsAlternativeOf power bytes (reference ∷ auxiliary) (alternative_of power bytes reference auxiliary)
unfolding alternative_of
is_alternative_of power bytes reference auxiliary a may =
    let all = recursion_from_All (MayBeReference (length bytes)) (reference ∷ auxiliary) may.references in
    let few = may.few in
    let n = length-map auxiliary (part_of bytes) in
    record {
      value = record { reference = part_is bytes reference a all.0; few = omega (arith, few, n); auxiliary = parts_are bytes auxiliary a all.1; rest = tt };
      power_is = code_named power may.two_bits;
      references_are = refl;
      rest = refl;
    }

-- what is written for it
writes_alternative : AreExact IsAlternative (λ s b. NoReason) StandsForAc IsAcValue WritesAc → WritesPayloads IsAlternative IsAcValue WritesAc → (v : AcValue) → IsAcValue v → length (ac_payload v) < 2 ^ 32 → WritesAlternative v (ac_payload v)
writes_alternative exact written v h short =
    let set = written v (ac_payload v) h refl in
    let w = exact.each (ac_payload v) set in
    let back = exact.round_trip v (ac_payload v) (Ok w.0) h refl short (short, set, w.1.1) in
    record { is = refl; in_set = set; stands = subst (StandsForAc (ac_payload v)) back w.1.1 }

-- its payload, part by part
abbrev pub put_parts : (power : ℕ) (bytes : List ℕ) (reference : NdefPart) (auxiliary : List NdefPart) → List ℕ
put_parts power bytes reference auxiliary =
    (power ∷ []) ++ (counted_part bytes reference ++ ((length auxiliary ∷ []) ++ flat_map (counted_part bytes) auxiliary))

pub payload_of : (power : ℕ) (bytes : List ℕ) (reference : NdefPart) (auxiliary : List NdefPart) → power < 4
    → put_parts power bytes reference auxiliary ≡ ac_payload (alternative_of power bytes reference auxiliary)
unfolding alternative_of
payload_of power bytes reference auxiliary h =
    let names = map (part_of bytes) auxiliary in
    let e = sym (flat_map-map counted (part_of bytes) auxiliary) ∙ sym (append-nil (flat_map counted names)) in
    let n : length auxiliary ≡ length names = sym (length-map auxiliary (part_of bytes)) in
    ap₂ (λ p x. p ∷ (counted_part bytes reference ++ x)) (sym (code_named power h)) (ap₂ (λ k x. k ∷ x) n e)

pub put_length : (power : ℕ) (bytes : List ℕ) (reference : NdefPart) (auxiliary : List NdefPart) → MayBeReference (length bytes) reference
    → length (put_parts power bytes reference auxiliary) ≡ 3 + reference.length + length (flat_map (counted_part bytes) auxiliary)
put_length power bytes reference auxiliary h =
    let n = counted_length bytes reference h in
    let m = length-append (counted_part bytes reference) ((length auxiliary ∷ []) ++ flat_map (counted_part bytes) auxiliary) in
    omega (arith, n, m)

-- ---- its length

joined_bound : (bytes : List ℕ) (parts : List NdefPart) → AllByRecursion (MayBeReference (length bytes)) parts → length (flat_map (counted_part bytes) parts) ≤ 256 * length parts
joined_bound bytes [] h = omega arith
joined_bound bytes (part ∷ parts) h =
    let n = length-append (counted_part bytes part) (flat_map (counted_part bytes) parts) in
    let one = counted_length bytes part h.0 in
    let few = h.0.1 in
    let more = joined_bound bytes parts h.1 in
    omega (arith, n, one, few, more)

pub alternative_short : (power : ℕ) (bytes : List ℕ) (parts : List NdefPart) → MayBeAlternative power bytes parts → length (alternative_payload power bytes parts) < 2 ^ 32
alternative_short power bytes [] may = omega arith
alternative_short power bytes (reference ∷ auxiliary) may =
    let all = recursion_from_All (MayBeReference (length bytes)) (reference ∷ auxiliary) may.references in
    let n = put_length power bytes reference auxiliary all.0 in
    let bound = joined_bound bytes auxiliary all.1 in
    let few = may.few in
    let one = all.0.1 in
    omega (arith, n, bound, few, one)

-- what is given of these octets is what is written for the alternative carrier
pub gives_alternative : AreExact IsAlternative (λ s b. NoReason) StandsForAc IsAcValue WritesAc → WritesPayloads IsAlternative IsAcValue WritesAc → (power : ℕ) (bytes : List ℕ) (parts : List NdefPart) → AreOctets bytes → MayBeAlternative power bytes parts → (before after : List ℕ) (count status : ℕ)
    → Gives (alternative_payload power bytes parts) before after count status → GivesAlternative power bytes parts before after count status
gives_alternative exact written power bytes [] a may before after count status g = let some = may.some in absurd (omega (arith, some))
gives_alternative exact written power bytes (reference ∷ auxiliary) a may before after count status g =
    let is = is_alternative_of power bytes reference auxiliary a may in
    let same = payload_of power bytes reference auxiliary may.two_bits in
    let short = subst (λ t. length t < 2 ^ 32) same (alternative_short power bytes (reference ∷ auxiliary) may) in
    record {
      alternative = alternative_of power bytes reference auxiliary;
      is = is;
      gives = record {
        payload = ac_payload (alternative_of power bytes reference auxiliary);
        is = writes_alternative exact written (alternative_of power bytes reference auxiliary) is.value short;
        short = short;
        gives = subst (λ t. Gives t before after count status) same g;
      };
    }
