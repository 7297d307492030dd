-- The places of the references of an alternative carrier.
use Rattle.std.proofs.Common.{◌≡◌, ℕ, zero, suc, ◌+◌, ◌<◌, ◌≤◌, ◌∷◌, [], take, drop, sym, refl, ◌∙◌, ap, subst, arith, List, length, length-drop, get_or, ne_eqb, false, Some}
use Rattle.std.specs.Prelude.{◌==◌, slice_get, sum_by, if◌then◌else◌}
use Rattle.std.proofs.lemmas.List.{drop-drop, length-take-le}
use Rattle.std.proofs.lemmas.List.Sums.{sum_by-cons, sum_by_more}
use Rattle.std.proofs.lemmas.Option.{get_or_from_slice_get, slice_get_within}
use Rattle.ndef_format.specs.Handovers.{IsAlternative, AreAuxiliary, AreReferences}
use Rattle.ndef_format.specs.Octets.{IsOctet}
use Rattle.ndef_lang.specs.OctetLaws.{field_parts}
use Rattle.ndef_types.specs.Values.{AcValue, StandsForAc, StandForNames}
use Rattle.ndef_c.specs.Alternatives.{LiesAt, reference_place, references}
use Rattle.ndef_c.specs.Walks.{Lies}

-- ---- the octet at a place, and those after it

pub record At (s : List ℕ) (at x : ℕ) (rest : List ℕ) : Type 0 where
  pub within : at < length s
  pub is : get_or s at 0 ≡ x
  pub following : drop (at + 1) s ≡ rest

is_at : (s : List ℕ) (at x : ℕ) (rest : List ℕ) → drop at s ≡ x ∷ rest → (at < length s) × (get_or s at 0 ≡ x)
is_at [] zero x rest e = absurd (cc)
is_at [] (suc at) x rest e = absurd (cc)
is_at (y ∷ s) zero x rest e = let a : y ≡ x = cc in (omega arith, a)
is_at (y ∷ s) (suc at) x rest e = let r = is_at s at x rest e in let n = r.0 in (omega (arith, n), r.1)

pub octet_at : (s : List ℕ) (at x : ℕ) (rest : List ℕ) → drop at s ≡ x ∷ rest → At s at x rest
octet_at s at x rest e = let r = is_at s at x rest e in record { within = r.0; is = r.1; following = sym (drop-drop 1 at s) ∙ ap (drop 1) e }

-- ---- the parts of a payload

-- the reference has n octets
pub record AcAt (payload : List ℕ) (n : ℕ) : Type 0 where
  pub length_within : 1 < length payload
  pub count_within : 2 + n < length payload
  pub are : AreReferences (get_or payload (2 + n) 0) (drop (3 + n) payload)
  pub reference : (v : AcValue) → StandsForAc payload v → Lies payload 2 n v.reference
  pub stand : (v : AcValue) → StandsForAc payload v → StandForNames (get_or payload (2 + n) 0) (drop (3 + n) payload) v.auxiliary v.rest

ac_parts : (octet n : ℕ) (s rest : List ℕ) → drop n s ≡ rest → n ≤ length s → AreAuxiliary rest → AcAt (octet ∷ n ∷ s) n
ac_parts octet n s [] e l a = absurd a
ac_parts octet n s (k ∷ t) e l a =
    let payload : List ℕ = octet ∷ n ∷ s in
    let p = octet_at payload (2 + n) k t (sym (drop-drop n 2 payload) ∙ e) in
    let place : 3 + n ≡ 2 + n + 1 = omega arith in
    let at : drop (3 + n) payload ≡ t = ap (λ j. drop j payload) place ∙ p.following in
    record {
      length_within = omega arith;
      count_within = p.within;
      are = rw (p.is, at) a.1;
      reference = λ v h. record { within = omega (arith, l); are = h.1; count_is = sym (length-take-le n s l) ∙ ap length h.1 };
      stand = λ v h. rw (p.is, at) (rw e at h.2);
    }

pub ac_at : (payload : List ℕ) (n : ℕ) → IsAlternative payload → n ≡ get_or payload 1 0 → AcAt payload n
ac_at [] n h e = absurd h
ac_at (octet ∷ []) n h e = absurd h.1
ac_at (octet ∷ k ∷ s) n h e =
    let p = field_parts IsOctet k AreAuxiliary s h.1.1 in
    rw e (ac_parts octet k s (drop k s) refl p.within p.rest)

pub names_count : (n : ℕ) (s : List ℕ) (names : List (List ℕ)) (rest : List ℕ) → StandForNames n s names rest → length names ≡ n
names_count zero s names rest h = ap length h.0
names_count (suc n) (k ∷ s) (x ∷ names) rest h = let m = names_count n (drop k s) names rest h.1 in omega (arith, m)
names_count (suc n) [] names rest h = absurd h
names_count (suc n) (k ∷ s) [] rest h = absurd h

-- ---- the auxiliary references

-- the octets of some references, each after its length
abbrev names_size : List (List ℕ) → ℕ
names_size = sum_by (λ name. 1 + length name)

-- of count of them i are before the place
pub record NamesAt (payload : List ℕ) (count at i : ℕ) : Type 0 where
  pub m : ℕ
  pub missing : m + i ≡ count
  pub are : AreReferences m (drop at payload)
  pub stand : (v : AcValue) → StandsForAc payload v → StandForNames m (drop at payload) (drop i v.auxiliary) v.rest
  pub place : (v : AcValue) → StandsForAc payload v → at ≡ 3 + names_size (take i v.auxiliary) + length v.reference

-- the next one comes after its length, and the others after that one
pub record NameThere (payload : List ℕ) (count at i : ℕ) : Type 0 where
  pub within : at < length payload
  pub bound : at + (1 + get_or payload at 0) ≤ length payload
  pub lies : (v : AcValue) → StandsForAc payload v → LiesAt payload v.auxiliary i (record { at = at + 1; length = get_or payload at 0 })
  pub place : (v : AcValue) → StandsForAc payload v → at + 1 ≡ reference_place (references v) (i + 1)
  pub next : NamesAt payload count (at + (1 + get_or payload at 0)) (i + 1)

-- where a reference begins after the first one
place_is : (names : List (List ℕ)) (name : List ℕ) (i : ℕ) → reference_place (name ∷ names) (i + 1) ≡ 4 + length name + names_size (take i names)
place_is names name i =
    let one : i + 1 ≡ suc i = omega arith in
    let later : (suc i == 0) ≡ false = ne_eqb (suc i) 0 (omega arith) in
    let size = sum_by-cons (λ n. 1 + length n) name (take i names) in
    ap (reference_place (name ∷ names)) one ∙ ap (λ b. (if b then 2 else 3) + names_size (name ∷ take i names)) later ∙ omega (arith, size)

size_more : (names : List (List ℕ)) (i : ℕ) (name : List ℕ) → slice_get names i ≡ Some name → names_size (take (i + 1) names) ≡ names_size (take i names) + (1 + length name)
size_more names i name e =
    sum_by_more (λ n. 1 + length n) names i name (slice_get_within names i name e) ∙ ap (λ n. names_size (take i names) + (1 + length n)) (get_or_from_slice_get names i name name e)

first_of : (names : List (List ℕ)) (i m k : ℕ) (s rest : List ℕ) → StandForNames (suc m) (k ∷ s) (drop i names) rest
    → (slice_get names i ≡ Some (take k s)) × StandForNames m (drop k s) (drop (i + 1) names) rest
first_of [] zero m k s rest h = absurd h
first_of [] (suc i) m k s rest h = absurd h
first_of (x ∷ names) zero m k s rest h = (ap Some (sym h.0), h.1)
first_of (x ∷ names) (suc i) m k s rest h =
    let g = first_of names i m k s rest h in
    let place : suc i + 1 ≡ suc (i + 1) = omega arith in
    (g.0, subst (λ j. StandForNames m (drop k s) (drop j (x ∷ names)) rest) (sym place) g.1)

there : (payload : List ℕ) (count at i m : ℕ) (rest : List ℕ) → 0 < m → m + i ≡ count → drop at payload ≡ rest → AreReferences m rest
    → ((v : AcValue) → StandsForAc payload v → StandForNames m rest (drop i v.auxiliary) v.rest)
    → ((v : AcValue) → StandsForAc payload v → at ≡ 3 + names_size (take i v.auxiliary) + length v.reference) → NameThere payload count at i
there payload count at i zero rest l e d a f g = absurd (omega (arith, l))
there payload count at i (suc m) [] l e d a f g = absurd a
there payload count at i (suc m) (k ∷ s) h e d a f g =
    let p = octet_at payload at k s d in
    let q = field_parts IsOctet k (AreReferences m) s a.1 in
    let l = ap length d in
    let n = length-drop at payload in
    let w = p.within in
    let place : at + (1 + k) ≡ at + 1 + k = omega arith in
    let following : drop (at + (1 + get_or payload at 0)) payload ≡ drop k s =
    ap (λ j. drop (at + (1 + j)) payload) p.is ∙ ap (λ j. drop j payload) place ∙ sym (drop-drop k (at + 1) payload) ∙ ap (drop k) p.following in
    record {
      within = p.within;
      bound = omega (arith, l, n, w, p.is, q.within);
      lies = λ v x.
          let first = first_of v.auxiliary i m k s v.rest (f v x) in (
            take k s,
            first.0,
            record {
              within = omega (arith, l, n, w, p.is, q.within);
              are = ap (λ j. take j (drop (at + 1) payload)) p.is ∙ ap (take k) p.following;
              count_is = p.is ∙ sym (length-take-le k s q.within);
            },
          );
      place = λ v x.
          let here = g v x in
          let there = place_is v.auxiliary v.reference i in
          omega (arith, here, there);
      next = record {
        m = m;
        missing = omega (arith, e);
        are = rw following q.rest;
        stand = λ v x. rw following (first_of v.auxiliary i m k s v.rest (f v x)).1;
        place = λ v x.
            let here = g v x in
            let more = size_more v.auxiliary i (take k s) (first_of v.auxiliary i m k s v.rest (f v x)).0 in
            let size = length-take-le k s q.within in
            omega (arith, here, more, size, p.is);
      };
    }

pub name_there : (payload : List ℕ) (count at i : ℕ) → i < count → NamesAt payload count at i → NameThere payload count at i
name_there payload count at i l h = let e = h.missing in there payload count at i h.m (drop at payload) (omega (arith, l, e)) h.missing refl h.are h.stand h.place

pub names_first : (payload : List ℕ) (n : ℕ) → AcAt payload n → NamesAt payload (get_or payload (2 + n) 0) (3 + n) 0
names_first payload n h = record { m = get_or payload (2 + n) 0; missing = omega arith; are = h.are; stand = h.stand; place = λ v x. let n = (h.reference v x).count_is in omega (arith, n) }
