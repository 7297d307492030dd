-- The rest of a record, from one step of its writing to the next.
use Rattle.std.proofs.Common.{◌≡◌, ◌≢◌, ℕ, suc, ◌+◌, ◌-◌, ◌*◌, ◌/◌, ◌%◌, ◌<◌, ◌≤◌, ◌==◌, ◌&&◌, ◌⊎◌, not, nat_lt, nat_le, Bool, true, false, List, [], ◌++◌, length, take, drop, refl, sym, ap, ap₂, ◌∙◌, inl, inr, arith, subst, length-append, length-take, length-drop, append-nil, append_assoc, take_all, ne_eqb, ltb, if◌then◌else◌, lit≤}
use Rattle.std.proofs.lemmas.Bool.{eq-eqb, le-ltb, lt-ltb, eqb-true, ltb-true, true≢false}
use Rattle.std.proofs.lemmas.Bool.Decides.{nat_tests}
use Rattle.std.proofs.lemmas.List.{drop-append-le, drop-drop, take-append-le, take-append-drop}
use Rattle.std.proofs.lemmas.Nat.{div-add-mod', mod-mul-add, mod_below}
use Rattle.std.proofs.Math.ListN.{drop_of_length-le}
use Rattle.std.proofs.Math.Nat.{mod-le}
use Rattle.std.proofs.Math.Seq.{take-add}
use Rattle.std.specs.List.{flat_map}
use Rattle.std.specs.Option.{ForSome}
use Rattle.std.specs.Prelude.{Option, None, Some, unwrap_or}
use Rattle.ndef_format.specs.Records.{HeadFields, id_length_octets, payload_length_octets, fields, octets}
use Rattle.ndef_message.specs.Cut.{later_piece, later_pieces}
use Rattle.ndef_message.specs.CutLaws.{all_parts-none, below_or_not}
use Rattle.ndef_message.specs.Heads.{first_fields, later_fields}
use Rattle.ndef_message.specs.Machine.Stepping.{advanced}
use Rattle.ndef_message.specs.Steps.{AreNames, CanBeWritten, IsProgress, Steps, chunk_begin, chunk_fields, chunk_front, chunk_length, chunk_size, front_length, is_last_chunk, is_over, later_octets, octets_left, unwritten}
use Rattle.ndef_message.specs.Written.{is_short, written_piece}
use Rattle.ndef_message.specs.WrittenLaws.{later_is, later-step}
use Rattle.ndef_message.specs.declared.plan.Progress.{Progress}
use Rattle.ndef_message.specs.declared.plan.RecordPlan.{RecordPlan}

-- ---- numbers

pub mod_on : (a n s : ℕ) → a % s + n < s → (a + n) % s ≡ a % s + n
mod_on a n s h =
    let whole = div-add-mod' a s in
    let e : a + n ≡ (a / s) * s + (a % s + n) = omega (arith, whole) in
    ap (λ x. x % s) e ∙ mod-mul-add (a / s) s (a % s + n) h

pub mod_turn : (a n s : ℕ) → 1 ≤ s → a % s + n ≡ s → (a + n) % s ≡ 0
mod_turn a n s some h =
    let whole = div-add-mod' a s in
    let e : a + n ≡ suc (a / s) * s + 0 = omega (arith, whole, h) in
    ap (λ x. x % s) e ∙ mod-mul-add (suc (a / s)) s 0 some

pub some_size : (size : Option ℕ) → ForSome size (λ n. 1 ≤ n) → 1 ≤ unwrap_or size 4294967295
some_size None h = lit≤ tt
some_size (Some n) h = h n refl

-- ---- whether it is over

and_false : (b : Bool) → (b && false) ≡ false
and_false true = refl
and_false false = refl

and_true : (a b : Bool) → (a && b) ≡ true → (a ≡ true) × (b ≡ true)
and_true true b h = (refl, h)
and_true false b h = absurd (true≢false (sym h))

pub not_over : (p : RecordPlan) (at : Progress) → at.taken ≢ p.payload_length → is_over p at ≡ false
not_over p at h = ap (λ b. ltb 0 p.payload_length && b) (ne_eqb at.taken p.payload_length h) ∙ and_false (ltb 0 p.payload_length)

pub over : (p : RecordPlan) (at : Progress) → 0 < p.payload_length → at.taken ≡ p.payload_length → is_over p at ≡ true
over p at some h = ap₂ (λ a b. a && b) (lt-ltb 0 p.payload_length some) (eq-eqb at.taken p.payload_length h)

pub over_tells : (p : RecordPlan) (at : Progress) → is_over p at ≡ true → (0 < p.payload_length) × (at.taken ≡ p.payload_length)
over_tells p at h = let both = and_true _ _ h in (ltb-true 0 p.payload_length both.0, eqb-true at.taken p.payload_length both.1)

-- ---- the front of a chunk

names_length : (b : Bool) (kind id : List ℕ) (k i : ℕ) → length kind ≡ k → length id ≡ i → length (if b then kind ++ id else []) ≡ (if b then k + i else 0)
names_length true kind id k i e f = let n = length-append kind id in omega (arith, n, e, f)
names_length false kind id k i e f = refl

pub front_size : (p : RecordPlan) (begin : ℕ) (kind id : List ℕ) → AreNames p kind id → length (chunk_front p begin kind id) ≡ front_length p begin
front_size p begin kind id names =
    length-append (octets (chunk_fields p begin)) (if begin == 0 then kind ++ id else [])
    ∙ ap (λ n. length (octets (chunk_fields p begin)) + n) (names_length (begin == 0) kind id p.kind_length p.id_length names.kind_length names.id_length)

octets_few : (f : HeadFields) → length (octets f) ≤ 7
octets_few f = let few = after_types_few f.short f.payload_length f.id_length in omega (arith, few)
  where
    after_types_few : (short : Bool) (n : ℕ) (id : Option ℕ) → length (payload_length_octets short n ++ id_length_octets id) ≤ 5
    after_types_few true n None = omega arith
    after_types_few true n (Some i) = omega arith
    after_types_few false n None = omega arith
    after_types_few false n (Some i) = omega arith

pub front_few : (p : RecordPlan) (begin : ℕ) → CanBeWritten p → front_length p begin ≤ 517
front_few p begin can =
    let few = octets_few (chunk_fields p begin) in
    let kind = can.kind in
    let id = can.id in
    elim (begin == 0) as (λ b. length (octets (chunk_fields p begin)) + (if b then p.kind_length + p.id_length else 0) ≤ 517) [
      | true ↦ omega (arith, few, kind, id)
      | false ↦ omega (arith, few)
    ]

-- ---- what is left

pub open_left : (p : RecordPlan) (at : Progress) (kind id rest : List ℕ) → is_over p at ≡ false
    → octets_left p at kind id rest ≡ unwritten p at kind id rest
unfolding octets_left
open_left p at kind id rest h = ap (λ b. if b then [] else unwritten p at kind id rest) h

pub over_left : (p : RecordPlan) (at : Progress) (kind id rest : List ℕ) → is_over p at ≡ true → octets_left p at kind id rest ≡ []
unfolding octets_left
over_left p at kind id rest h = ap (λ b. if b then [] else unwritten p at kind id rest) h

pub no_later : (p : RecordPlan) (rest : List ℕ) → 1 ≤ chunk_size p → length rest ≡ 0 → later_octets p rest ≡ []
no_later p rest some none = ap (λ ps. flat_map (written_piece p.form) (later_pieces p.last ps)) (all_parts-none (chunk_size p) rest some none)

-- ---- one step

-- what goes out of what is left: a front, and a part after it where the front is out
take_both : (i j k : ℕ) (front rest later : List ℕ) → j ≤ k → (j ≡ 0) ⊎ (length front ≤ i)
    → front ++ (take k rest ++ later) ≡ (take i front ++ take j rest) ++ (drop i front ++ (take (k - j) (drop j rest) ++ later))
take_both i j k front rest later h which =
    let t = take (k - j) (drop j rest) in
    let e : k ≡ j + (k - j) = omega arith in
    let split : take k rest ++ later ≡ take j rest ++ (t ++ later) =
    ap (λ l. l ++ later) (ap (λ n. take n rest) e ∙ take-add j (k - j) rest) ∙ append_assoc (take j rest) t later in
    ap (λ l. front ++ l) split ∙ elim which [
      | inl none ↦ let nothing : take j rest ≡ [] = ap (λ n. take n rest) none in
          ap₂ (λ f l. f ++ (l ++ (t ++ later))) (sym (take-append-drop i front)) nothing
          ∙ append_assoc (take i front) (drop i front) (t ++ later)
          ∙ ap (λ l. l ++ (drop i front ++ (t ++ later))) (sym (ap (λ l. take i front ++ l) nothing ∙ append-nil (take i front)))
      | inr whole ↦ sym (append_assoc front (take j rest) (t ++ later))
          ∙ ap₂ (λ f l. (f ++ take j rest) ++ (l ++ (t ++ later))) (sym (take_all i front whole)) (sym (drop_of_length-le front whole))
    ]

-- the chunk that is begun, of whose front i octets go out, and of its payload j
pub record ReadStep (p : RecordPlan) (at : Progress) (kind id part : List ℕ) (i j : ℕ) : Type 0 where
  pub can : CanBeWritten p
  pub size : 1 ≤ chunk_size p
  pub names : AreNames p kind id
  pub is : IsProgress p at
  pub unfinished : is_over p at ≡ false
  pub there : at.taken + length part ≤ p.payload_length
  pub of_front : i ≤ length (drop at.head (chunk_front p (chunk_begin p at.taken) kind id))
  pub of_part : j ≤ length part
  pub within : at.taken + j ≤ chunk_begin p at.taken + chunk_length p (chunk_begin p at.taken)
  pub whole : (j ≡ 0) ⊎ (length (drop at.head (chunk_front p (chunk_begin p at.taken) kind id)) ≤ i)

-- what goes out
abbrev pub gone : RecordPlan → Progress → (kind id part : List ℕ) → (i j : ℕ) → List ℕ
gone p at kind id part i j = take i (drop at.head (chunk_front p (chunk_begin p at.taken) kind id)) ++ take j part

-- within the chunk
inside_on : (p : RecordPlan) (at : Progress) (kind id part more : List ℕ) (i j : ℕ) → ReadStep p at kind id part i j
    → at.taken % chunk_size p + j < chunk_size p
    → unwritten p at kind id (part ++ more)
    ≡ gone p at kind id part i j ++ unwritten p (record { taken = at.taken + j; head = at.head + i }) kind id (drop j (part ++ more))
inside_on p at kind id part more i j t h =
    let s = chunk_size p in
    let r = at.taken % s in
    let b = chunk_begin p at.taken in
    let rest = part ++ more in
    let front = drop at.head (chunk_front p b kind id) in
    let low = mod-le at.taken s in
    let m : (at.taken + j) % s ≡ r + j = mod_on at.taken j s h in
    let same : (at.taken + j) - (at.taken + j) % s ≡ b = omega (arith, m, low) in
    let left : s - (at.taken + j) % s ≡ (s - r) - j = omega (arith, m) in
    let all : j + ((s - r) - j) ≡ s - r = omega (arith, h) in
    take_both i j (s - r) front rest (later_octets p (drop (s - r) rest)) (omega (arith, h)) t.whole
    ∙ ap (λ l. (take i front ++ l) ++ (drop i front ++ (take ((s - r) - j) (drop j rest) ++ later_octets p (drop (s - r) rest))))
    (take-append-le j part more t.of_part)
    ∙ ap₂ (λ f l. gone p at kind id part i j ++ (f ++ (take ((s - r) - j) (drop j rest) ++ later_octets p l)))
    (drop-drop i at.head (chunk_front p b kind id) ∙ ap (λ n. drop (at.head + i) (chunk_front p n kind id)) (sym same))
    (ap (λ n. drop n rest) (sym all) ∙ sym (drop-drop ((s - r) - j) j rest))
    ∙ ap (λ n. gone p at kind id part i j ++ (drop (at.head + i) (chunk_front p ((at.taken + j) - (at.taken + j) % s) kind id)
    ++ (take n (drop j rest) ++ later_octets p (drop n (drop j rest))))) (sym left)

-- up to the end of the payload
last_on : (p : RecordPlan) (at : Progress) (kind id part more : List ℕ) (i j : ℕ) → ReadStep p at kind id part i j
    → 0 < j → at.taken + j ≡ p.payload_length → at.taken + length (part ++ more) ≡ p.payload_length
    → unwritten p at kind id (part ++ more) ≡ gone p at kind id part i j
last_on p at kind id part more i j t some end all =
    let s = chunk_size p in
    let r = at.taken % s in
    let b = chunk_begin p at.taken in
    let rest = part ++ more in
    let front = drop at.head (chunk_front p b kind id) in
    let low = mod-le at.taken s in
    let below = mod_below at.taken s t.size in
    let w = t.within in
    let fits : j ≤ s - r = omega (arith, w, low, below) in
    let n : length rest ≡ j = omega (arith, end, all) in
    let d = length-drop j rest in
    let k = length-drop (s - r) rest in
    let out : drop i front ≡ [] = elim t.whole [ inl e ↦ absurd (omega (arith, e, some)) | inr e ↦ drop_of_length-le front e ] in
    let none : drop j rest ≡ [] = drop_of_length-le rest (omega (arith, n)) in
    let take_none : (m : ℕ) → take m (drop j rest) ≡ [] = λ m. ap (take m) none ∙ take_all m [] (omega arith) in
    take_both i j (s - r) front rest (later_octets p (drop (s - r) rest)) fits t.whole
    ∙ ap₂ (λ l x. (take i front ++ l) ++ x) (take-append-le j part more t.of_part)
    (ap₂ (λ f l. f ++ l)
    out
    (ap₂ (λ x y. x ++ y) (take_none ((s - r) - j)) (no_later p (drop (s - r) rest) t.size (omega (arith, k, n, fits)))))
    ∙ append-nil (gone p at kind id part i j)

pub le_is : (a s d : ℕ) → d ≡ a - s → nat_le a s ≡ (d == 0)
le_is a s d e = grind (arith, nat_tests)

-- a chunk's head and payload, and the chunks after it
next_front : (p : RecordPlan) (begin : ℕ) (kind id rest : List ℕ) → 1 ≤ chunk_size p → 0 < begin → 0 < length rest → begin + length rest ≡ p.payload_length
    → chunk_front p begin kind id ++ (take (chunk_size p) rest ++ later_octets p (drop (chunk_size p) rest)) ≡ later_octets p rest
next_front p begin kind id rest size after some all =
    let s = chunk_size p in
    let part = take s rest in
    let later = drop s rest in
    let ends = is_last_chunk p begin in
    let n = length-take s rest in
    let d = length-drop s rest in
    let long : chunk_length p begin ≡ length part = omega (arith, n, all) in
    let not_first : (begin == 0) ≡ false = ne_eqb begin 0 (omega (arith, after)) in
    let none : ends ≡ (length later == 0) = le_is (p.payload_length - begin) s (length later) (omega (arith, d, all)) in
    let front : chunk_front p begin kind id ≡ octets (fields (later_piece (ends && p.last) (not ends) part) (is_short p.form (length part))) =
    ap (λ b. octets (if b then first_fields (record { first = p.first; last = p.last; alone = is_last_chunk p 0 }) p.form p.tnf p.kind_length p.id_length (chunk_length p 0)
    else later_fields p.last ends p.form (chunk_length p begin)) ++ (if b then kind ++ id else [])) not_first
    ∙ append-nil (octets (later_fields p.last ends p.form (chunk_length p begin)))
    ∙ ap (λ n. octets (later_fields p.last ends p.form n)) long in
    sym (append_assoc (chunk_front p begin kind id) part (later_octets p later))
    ∙ ap (λ f. (f ++ part) ++ later_octets p later) front
    ∙ ap (λ l. l ++ later_octets p later) (later_is p.form (ends && p.last) (not ends) part (fields (later_piece (ends && p.last) (not ends) part) (is_short p.form (length part))) refl)
    ∙ later-step p.form p.last ends s rest part later size some refl refl none

-- up to the end of the chunk
chunk_on : (p : RecordPlan) (at : Progress) (kind id part more : List ℕ) (i j : ℕ) → ReadStep p at kind id part i j
    → 0 < j → at.taken % chunk_size p + j ≡ chunk_size p → at.taken + j < p.payload_length
    → at.taken + length (part ++ more) ≡ p.payload_length
    → unwritten p at kind id (part ++ more)
    ≡ gone p at kind id part i j ++ unwritten p (record { taken = at.taken + j; head = 0 }) kind id (drop j (part ++ more))
chunk_on p at kind id part more i j t some turn below all =
    let s = chunk_size p in
    let r = at.taken % s in
    let b = chunk_begin p at.taken in
    let rest = part ++ more in
    let front = drop at.head (chunk_front p b kind id) in
    let m : (at.taken + j) % s ≡ 0 = mod_turn at.taken j s t.size turn in
    let begin : (at.taken + j) - (at.taken + j) % s ≡ at.taken + j = omega (arith, m) in
    let full : s - (at.taken + j) % s ≡ s = omega (arith, m) in
    let none : (s - r) - j ≡ 0 = omega (arith, turn) in
    let is : s - r ≡ j = omega (arith, turn) in
    let d = length-drop j rest in
    let out : drop i front ≡ [] = elim t.whole [ inl e ↦ absurd (omega (arith, e, some)) | inr e ↦ drop_of_length-le front e ] in
    take_both i j (s - r) front rest (later_octets p (drop (s - r) rest)) (omega (arith, is)) t.whole
    ∙ ap₂ (λ l x. (take i front ++ l) ++ x) (take-append-le j part more t.of_part)
    (ap₂ (λ f n. f ++ (take n (drop j rest) ++ later_octets p (drop (s - r) rest)))
    out none
    ∙ ap (λ n. later_octets p (drop n rest)) is
    ∙ sym (next_front p (at.taken + j) kind id (drop j rest) t.size (omega (arith, some)) (omega (arith, d, all, below)) (omega (arith, d, all, below)))
    ∙ ap₂ (λ n k. chunk_front p n kind id ++ (take k (drop j rest) ++ later_octets p (drop k (drop j rest)))) (sym begin) (sym full))

-- ---- where a step ends

-- the payload octet with which the begun chunk ends
abbrev pub chunk_end : RecordPlan → Progress → ℕ
chunk_end p at = chunk_begin p at.taken + chunk_length p (chunk_begin p at.taken)

abbrev moved : Progress → (i j : ℕ) → (ends : Bool) → Progress
moved at i j ends = record { taken = at.taken + j; head = if ends then 0 else at.head + i }

abbrev is_end : RecordPlan → Progress → (j : ℕ) → Bool
is_end p at j = nat_lt 0 j && at.taken + j == chunk_end p at

begin_on : (p : RecordPlan) (at : Progress) (j : ℕ) → at.taken % chunk_size p + j < chunk_size p
    → chunk_begin p (at.taken + j) ≡ chunk_begin p at.taken
begin_on p at j h =
    let m = mod_on at.taken j (chunk_size p) h in
    let low = mod-le at.taken (chunk_size p) in
    omega (arith, m, low)

-- the chunk goes on, or ends the payload, or another one follows
data Ends (p : RecordPlan) (at : Progress) (j : ℕ) : Type 0 where
  goes_on : is_end p at j ≡ false → is_over p (record { taken = at.taken + j; head = 0 }) ≡ false → at.taken % chunk_size p + j < chunk_size p → Ends p at j
  ends_all : is_end p at j ≡ true → 0 < j → at.taken + j ≡ p.payload_length → Ends p at j
  ends_chunk : is_end p at j ≡ true → 0 < j → at.taken % chunk_size p + j ≡ chunk_size p → at.taken + j < p.payload_length → Ends p at j

which_end : (p : RecordPlan) (at : Progress) (kind id part : List ℕ) (i j : ℕ) → ReadStep p at kind id part i j → Ends p at j
which_end p at kind id part i j t =
    let s = chunk_size p in
    let low = mod-le at.taken s in
    let below = mod_below at.taken s t.size in
    let w = t.within in
    let most = t.is.taken in
    elim (below_or_not 0 j) [
      | inr none ↦ let zero : j ≡ 0 = omega (arith, none) in
          goes_on (ap (λ b. b && at.taken + j == chunk_end p at) (le-ltb 0 j none))
          (ap (λ n. ltb 0 p.payload_length && n == p.payload_length) (let e : at.taken + j ≡ at.taken = omega (arith, zero) in e) ∙ t.unfinished)
          (omega (arith, zero, below))
      | inl some ↦ elim (below_or_not (at.taken + j) (chunk_end p at)) [
        | inl before ↦ goes_on (ap (λ b. ltb 0 j && b) (ne_eqb (at.taken + j) (chunk_end p at) (omega (arith, before))) ∙ and_false (ltb 0 j))
            (not_over p (record { taken = at.taken + j; head = 0 }) (omega (arith, before, low, most)))
            (omega (arith, before, low))
        | inr reached ↦ let same : at.taken + j ≡ chunk_end p at = omega (arith, reached, w) in
            let is : is_end p at j ≡ true = ap₂ (λ a b. a && b) (lt-ltb 0 j some) (eq-eqb (at.taken + j) (chunk_end p at) same) in
            elim (below_or_not (at.taken + j) p.payload_length) [
              | inl more ↦ ends_chunk is some (omega (arith, same, more, low)) more
              | inr all ↦ ends_all is some (omega (arith, all, same, low, most))
            ]
      ]
    ]

pub turn_on : (p : RecordPlan) (at : Progress) (kind id part : List ℕ) (i j : ℕ) → ReadStep p at kind id part i j
    → Steps p kind id part at (advanced (chunk_end p at) at i j) (gone p at kind id part i j)
turn_on p at kind id part i j t =
    let back : (at.taken + j) - at.taken ≡ j = omega arith in
    record {
      from = omega arith;
      to = let few = t.of_part in omega (arith, few);
      octets = λ more all.
          let rest = part ++ more in
          open_left p at kind id rest t.unfinished ∙ elim (which_end p at kind id part i j t) [
            | goes_on is unfinished h ↦ inside_on p at kind id part more i j t h
                ∙ ap (λ l. gone p at kind id part i j ++ l) (sym (open_left p (record { taken = at.taken + j; head = at.head + i }) kind id (drop j rest) unfinished))
                ∙ ap₂ (λ b n. gone p at kind id part i j ++ octets_left p (moved at i j b) kind id (drop n rest)) (sym is) (sym back)
            | ends_all is some end ↦ last_on p at kind id part more i j t some end all
                ∙ sym (append-nil (gone p at kind id part i j))
                ∙ ap (λ l. gone p at kind id part i j ++ l) (sym (over_left p (record { taken = at.taken + j; head = 0 }) kind id (drop j rest)
                (over p (record { taken = at.taken + j; head = 0 }) (omega (arith, some, end)) end)))
                ∙ ap₂ (λ b n. gone p at kind id part i j ++ octets_left p (moved at i j b) kind id (drop n rest)) (sym is) (sym back)
            | ends_chunk is some turn below ↦ chunk_on p at kind id part more i j t some turn below all
                ∙ ap (λ l. gone p at kind id part i j ++ l) (sym (open_left p (record { taken = at.taken + j; head = 0 }) kind id (drop j rest)
                (not_over p (record { taken = at.taken + j; head = 0 }) (omega (arith, below)))))
                ∙ ap₂ (λ b n. gone p at kind id part i j ++ octets_left p (moved at i j b) kind id (drop n rest)) (sym is) (sym back)
          ];
    }

pub progress_on : (p : RecordPlan) (at : Progress) (kind id part : List ℕ) (i j : ℕ) → ReadStep p at kind id part i j
    → IsProgress p (advanced (chunk_end p at) at i j)
progress_on p at kind id part i j t =
    let s = chunk_size p in
    let b = chunk_begin p at.taken in
    let size = front_size p b kind id t.names in
    let left = length-drop at.head (chunk_front p b kind id) in
    let few = t.of_front in
    let most = t.is.most in
    let some_part = t.of_part in
    let there = t.there in
    elim (which_end p at kind id part i j t) [
      | goes_on is unfinished h ↦
          let same = ap (front_length p) (begin_on p at j h) in
          subst (λ b. IsProgress p (moved at i j b)) (sym is) (record {
            taken = omega (arith, some_part, there);
            over = λ e. absurd (true≢false (sym e ∙ unfinished));
            most = omega (arith, same, size, left, few, most);
            inside = λ _ m. elim t.whole [
              | inl none ↦ let old = t.is.inside t.unfinished (λ e. m (mod_on at.taken j s h ∙ omega (arith, e, none))) in
                  omega (arith, old, same, size, left, few)
              | inr whole ↦ omega (arith, whole, same, size, left, few, most)
            ];
          })
      | ends_all is some end ↦ subst (λ b. IsProgress p (moved at i j b)) (sym is) (record {
        taken = omega (arith, end);
        over = λ _. refl;
        most = omega arith;
        inside = λ o _. absurd (true≢false (sym (over p (record { taken = at.taken + j; head = 0 }) (omega (arith, some, end)) end) ∙ o));
      })
      | ends_chunk is some turn below ↦ subst (λ b. IsProgress p (moved at i j b)) (sym is) (record {
        taken = omega (arith, below);
        over = λ _. refl;
        most = omega arith;
        inside = λ _ m. absurd (m (mod_turn at.taken j s t.size turn));
      })
    ]

-- ---- steps, one after another

pub steps_none : (p : RecordPlan) (kind id part : List ℕ) (at : Progress) → Steps p kind id part at at []
steps_none p kind id part at = let none : at.taken - at.taken ≡ 0 = omega arith in record {
  from = omega arith;
  to = omega arith;
  octets = λ more _. ap (λ n. octets_left p at kind id (drop n (part ++ more))) (sym none);
}

pub steps_then : {p : RecordPlan} {kind id part rest : List ℕ} {a b c : Progress} {x y : List ℕ}
    → Steps p kind id part a b x → rest ≡ drop (b.taken - a.taken) part → Steps p kind id rest b c y
    → Steps p kind id part a c (x ++ y)
steps_then {p} {kind} {id} {part} {rest} {a} {b} {c} {x} {y} s e t =
    let f = s.from in
    let g = s.to in
    let h = t.from in
    let k = t.to in
    let n = ap length e ∙ length-drop (b.taken - a.taken) part in
    record {
      from = omega (arith, f, h);
      to = omega (arith, f, g, k, n);
      octets = λ more all.
          let i : drop (b.taken - a.taken) (part ++ more) ≡ rest ++ more =
          drop-append-le (b.taken - a.taken) part more (omega (arith, f, g)) ∙ ap (λ l. l ++ more) (sym e) in
          let l = length-append part more in
          let m = length-append rest more in
          let back : (b.taken - a.taken) + (c.taken - b.taken) ≡ c.taken - a.taken = omega (arith, f, h) in
          s.octets more all
          ∙ ap (λ r. x ++ octets_left p b kind id r) i
          ∙ ap (λ r. x ++ r) (t.octets more (omega (arith, all, l, m, n, f, g)))
          ∙ sym (append_assoc x y (octets_left p c kind id (drop (c.taken - b.taken) (rest ++ more))))
          ∙ ap (λ r. (x ++ y) ++ octets_left p c kind id r)
          (ap (drop (c.taken - b.taken)) (sym i) ∙ drop-drop (c.taken - b.taken) (b.taken - a.taken) (part ++ more)
          ∙ ap (λ n. drop n (part ++ more)) back);
    }

-- what is left of the part is within the payload
pub steps_within : {p : RecordPlan} {kind id part : List ℕ} {a b : Progress} {x : List ℕ} → Steps p kind id part a b x
    → a.taken + length part ≤ p.payload_length → b.taken + length (drop (b.taken - a.taken) part) ≤ p.payload_length
steps_within {p} {kind} {id} {part} {a} {b} s h =
    let f = s.from in
    let g = s.to in
    let n = length-drop (b.taken - a.taken) part in
    omega (arith, f, g, n, h)

-- the same of equal parts
pub steps_of : {p : RecordPlan} {kind k id i part x text : List ℕ} {a b : Progress} → kind ≡ k → id ≡ i → part ≡ x
    → Steps p kind id part a b text → Steps p k i x a b text
steps_of {p} {kind} {k} {id} {i} {part} {x} {text} {a} {b} e f g s =
    subst (λ z. Steps p k i z a b text) g (subst (λ z. Steps p k z part a b text) f (subst (λ z. Steps p z id part a b text) e s))
