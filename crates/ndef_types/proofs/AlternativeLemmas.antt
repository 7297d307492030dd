-- The payload of an alternative carrier, as it is read.
use Rattle.std.proofs.Common.{◌≡◌, ℕ, zero, suc, ◌+◌, ◌-◌, Some, ◌%◌, ◌<◌, ◌≤◌, List, [], ◌∷◌, ◌++◌, length, take, drop, get_or, refl, sym, ap, subst, arith, append_assoc, append-nil}
use Rattle.std.specs.Prelude.{slice_get}
use Rattle.ndef_format.specs.Handovers.{IsAlternative, AreReferences, AreAuxiliary}
use Rattle.ndef_format.specs.Octets.{IsOctet}
use Rattle.ndef_lang.specs.OctetLaws.{field_parts}
use Rattle.ndef_types.specs.Values.{AcValue, StandsForAc, StandForAuxiliary, StandForNames, power_code}

-- ---- reading names

-- after the first i references of count, m are left, and those read so far stand before what they stand for
pub record NamesLeft (count i : ℕ) (octets left : List ℕ) (names : List (List ℕ)) : Type 0 where
  pub m : ℕ
  pub missing : m + i ≡ count
  pub are : AreReferences m left
  pub before : (more : List (List ℕ)) (rest : List ℕ) → StandForNames m left more rest → StandForNames count octets (names ++ more) rest

pub names_first : (count : ℕ) (octets : List ℕ) → AreReferences count octets → NamesLeft count 0 octets octets []
names_first count octets h = record { m = count; missing = omega arith; are = h; before = λ more rest k. k }

pub names_last : (count i : ℕ) (octets left : List ℕ) (names : List (List ℕ)) → count ≤ i → NamesLeft count i octets left names → StandForNames count octets names left
names_last count i octets left names l h = at_end h.m (omega (arith, h.missing)) h.before
  where
    at_end : (m : ℕ) → m ≡ 0 → ((more : List (List ℕ)) (rest : List ℕ) → StandForNames m left more rest → StandForNames count octets (names ++ more) rest) → StandForNames count octets names left
    at_end zero e f = subst (λ ns. StandForNames count octets ns left) (append-nil names) (f [] left (refl, refl))
    at_end (suc m) e f = absurd (omega arith)

-- one name more
pub record NameStep (count i : ℕ) (octets left : List ℕ) (names : List (List ℕ)) : Type 0 where
  pub room : get_or left 0 0 < length left
  pub next : NamesLeft count (i + 1) octets (drop (get_or left 0 0) (drop 1 left)) (names ++ take (get_or left 0 0) (drop 1 left) ∷ [])

pub name_step : (count i : ℕ) (octets left : List ℕ) (names : List (List ℕ)) → i < count → NamesLeft count i octets left names → NameStep count i octets left names
name_step count i octets left names l h = at_more h.m (omega (arith, h.missing)) h.missing left h.are h.before
  where
    at_more : (m : ℕ) → 0 < m → m + i ≡ count → (left : List ℕ) → AreReferences m left
        → ((more : List (List ℕ)) (rest : List ℕ) → StandForNames m left more rest → StandForNames count octets (names ++ more) rest) → NameStep count i octets left names
    at_more zero z e left a f = absurd (omega arith)
    at_more (suc m) z e [] a f = absurd a
    at_more (suc m) z e (k ∷ s) a f =
        let p = field_parts IsOctet k (AreReferences m) s a.1 in
        record {
          room = omega (arith, p.within);
          next = record {
            m = m;
            missing = omega arith;
            are = p.rest;
            before = λ more rest g. subst (λ ns. StandForNames count octets ns rest) (sym (append_assoc names (take k s ∷ []) more)) (f (take k s ∷ more) rest (refl, g));
          };
        }

pub names_count : (n : ℕ) (s : List ℕ) (names : List (List ℕ)) (rest : List ℕ) → StandForNames n s names rest → length names ≡ n
names_count zero s names rest h = ap length h.0
names_count (suc n) (k ∷ s) (x ∷ names) rest h = omega (arith, names_count n (drop k s) names rest h.1)
names_count (suc n) [] names rest h = absurd h
names_count (suc n) (k ∷ s) [] rest h = absurd h

-- ---- references that are gone over

-- after the first i references of count, m are left, which are the others
pub record Skipped (count i : ℕ) (octets left : List ℕ) : Type 0 where
  pub m : ℕ
  pub missing : m + i ≡ count
  pub are : AreReferences m left
  pub stand : (names : List (List ℕ)) (rest : List ℕ) → StandForNames count octets names rest → StandForNames m left (drop i names) rest

pub skip_first : (count : ℕ) (octets : List ℕ) → AreReferences count octets → Skipped count 0 octets octets
skip_first count octets h = record { m = count; missing = omega arith; are = h; stand = λ names rest k. k }

next_name : (names : List (List ℕ)) (i m k : ℕ) (s rest : List ℕ) → StandForNames (suc m) (k ∷ s) (drop i names) rest
    → (slice_get names i ≡ Some (take k s)) × StandForNames m (drop k s) (drop (i + 1) names) rest
next_name [] zero m k s rest h = absurd h
next_name [] (suc i) m k s rest h = absurd h
next_name (x ∷ names) zero m k s rest h = (ap Some (sym h.0), h.1)
next_name (x ∷ names) (suc i) m k s rest h =
    let g = next_name names i m k s rest h in
    let place : suc i + 1 ≡ suc (i + 1) = omega arith in
    (g.0, subst (λ j. StandForNames m (drop k s) (drop j (x ∷ names)) rest) (sym place) g.1)

-- the next of them, and those after it
pub record SkipStep (count i : ℕ) (octets left : List ℕ) : Type 0 where
  pub room : get_or left 0 0 < length left
  pub here : (names : List (List ℕ)) (rest : List ℕ) → StandForNames count octets names rest → slice_get names i ≡ Some (take (get_or left 0 0) (drop 1 left))
  pub next : Skipped count (i + 1) octets (drop (get_or left 0 0) (drop 1 left))

pub skip_step : (count i : ℕ) (octets left : List ℕ) → i < count → Skipped count i octets left → SkipStep count i octets left
skip_step count i octets left l h = at_more h.m (omega (arith, h.missing)) h.missing left h.are h.stand
  where
    at_more : (m : ℕ) → 0 < m → m + i ≡ count → (left : List ℕ) → AreReferences m left
        → ((names : List (List ℕ)) (rest : List ℕ) → StandForNames count octets names rest → StandForNames m left (drop i names) rest) → SkipStep count i octets left
    at_more zero z e left a f = absurd (omega arith)
    at_more (suc m) z e [] a f = absurd a
    at_more (suc m) z e (k ∷ s) a f =
        let p = field_parts IsOctet k (AreReferences m) s a.1 in
        record {
          room = omega (arith, p.within);
          here = λ names rest g. (next_name names i m k s rest (f names rest g)).0;
          next = record { m = m; missing = omega arith; are = p.rest; stand = λ names rest g. (next_name names i m k s rest (f names rest g)).1 };
        }

-- what is left after them
pub record Left (count i : ℕ) (octets left : List ℕ) : Type 0 where
  pub are : AreReferences (count - i) left
  pub stand : (names : List (List ℕ)) (rest : List ℕ) → StandForNames count octets names rest → StandForNames (count - i) left (drop i names) rest

pub skip_left : (count i : ℕ) (octets left : List ℕ) → Skipped count i octets left → Left count i octets left
skip_left count i octets left h =
    let e : h.m ≡ count - i = omega (arith, h.missing) in
    record { are = subst (λ m. AreReferences m left) e h.are; stand = λ names rest k. subst (λ m. StandForNames m left (drop i names) rest) e (h.stand names rest k) }

-- the first of those that are left
pub name_fits : (m : ℕ) (left : List ℕ) → 0 < m → AreReferences m left → get_or left 0 0 < length left
name_fits zero left l h = absurd (omega arith)
name_fits (suc m) [] l h = absurd h
name_fits (suc m) (k ∷ s) l h = let p = field_parts IsOctet k (AreReferences m) s h.1 in omega (arith, p.within)

pub name_is : (names : List (List ℕ)) (i m : ℕ) (left rest : List ℕ) → 0 < m → StandForNames m left (drop i names) rest → slice_get names i ≡ Some (take (get_or left 0 0) (drop 1 left))
name_is names i zero left rest l h = absurd (omega arith)
name_is names i (suc m) [] rest l h = absurd h
name_is names i (suc m) (k ∷ s) rest l h = (next_name names i m k s rest h).0

pub no_name : (m : ℕ) (left rest : List ℕ) (names : List (List ℕ)) → m ≡ 0 → StandForNames m left names rest → left ≡ rest
no_name zero left rest names e h = h.1
no_name (suc m) left rest names e h = absurd (omega arith)

-- ---- the auxiliary references of a payload

pub auxiliary_stand : (octets : List ℕ) (names : List (List ℕ)) (rest : List ℕ) → StandForAuxiliary octets names rest → StandForNames (get_or octets 0 0) (drop 1 octets) names rest
auxiliary_stand [] names rest h = absurd h
auxiliary_stand (n ∷ s) names rest h = h

pub auxiliary_count : (octets : List ℕ) (names : List (List ℕ)) (rest : List ℕ) → StandForAuxiliary octets names rest → get_or octets 0 0 ≡ length names
auxiliary_count octets names rest h = sym (names_count (get_or octets 0 0) (drop 1 octets) names rest (auxiliary_stand octets names rest h))

-- ---- the parts of a payload

pub record AcParts (payload : List ℕ) : Type 0 where
  pub some : 0 < length payload
  pub room : get_or (drop 1 payload) 0 0 < length (drop 1 payload)
  pub auxiliary : AreAuxiliary (drop (get_or (drop 1 payload) 0 0) (drop 1 (drop 1 payload)))
  pub stands : (v : AcValue) → get_or payload 0 0 % 4 ≡ power_code v.power → take (get_or (drop 1 payload) 0 0) (drop 1 (drop 1 payload)) ≡ v.reference
      → StandForAuxiliary (drop (get_or (drop 1 payload) 0 0) (drop 1 (drop 1 payload))) v.auxiliary v.rest → StandsForAc payload v

pub ac_parts : (payload : List ℕ) → IsAlternative payload → AcParts payload
ac_parts [] h = absurd h
ac_parts (octet ∷ []) h = absurd h.1
ac_parts (octet ∷ n ∷ s) h =
    let p = field_parts IsOctet n AreAuxiliary s h.1.1 in
    record { some = omega arith; room = omega (arith, p.within); auxiliary = p.rest; stands = λ v x y z. (x, y, z) }
