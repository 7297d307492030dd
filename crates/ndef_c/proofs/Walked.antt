-- The messages that a check accepts, walked from record to record.
use Rattle.std.proofs.Common.{◌≡◌, ℕ, ◌+◌, ◌≤◌, ◌∷◌, [], take, drop, refl, sym, ◌∙◌, ap, subst, arith, List, ◌++◌, length, length-append, length-take-le, append_assoc, append-nil, drop_at, true, false}
use Rattle.std.specs.List.{AllByRecursion}
use Rattle.std.proofs.lemmas.List.{take-append-drop, take-take}
use Rattle.ndef_value.specs.TnfLaws.{read_by_all}
use Rattle.ndef_format.specs.Records.{Piece, Run, IsRun, pieces}
use Rattle.ndef_format.specs.Messages.{SpellsPieces, BeginsOnce, EndsOnce, all_pieces}
use Rattle.ndef_format.specs.declared.profile.Profile.{Profile}
use Rattle.ndef_format.specs.declared.profile.Profile.TheVariants.{Strict, Standard}
use Rattle.ndef_format.specs.Payloads.{Sets}
use Rattle.ndef_format.specs.Reasons.{Conditions}
use Rattle.ndef_c.specs.Walks.{AreWalked, BeginsWithRun, ChecksAreWalked, LieBetween, ends_message}

-- what one reader takes for a run, each does that reads reserved values
pub read_standard : (profile : Profile) (r : Run) → IsRun profile r → IsRun Standard r
read_standard Strict r i = record { initial = record { read = read_by_all Standard r.initial.tnf i.initial.read; changed = i.initial.changed; not_empty = i.initial.not_empty }; follow = i.follow }
read_standard Standard r i = i

-- the spellings of some pieces, and of others
spell_split : (ps qs : List Piece) (bytes : List ℕ) → SpellsPieces (ps ++ qs) bytes → (front back : List ℕ) × (bytes ≡ front ++ back) × SpellsPieces ps front × SpellsPieces qs back
spell_split [] qs bytes s = ([], bytes, refl, refl, s)
spell_split (p ∷ ps) qs bytes (short, front, rest, e, s, more) =
    let w = spell_split ps qs rest more in
    (front ++ w.0, w.1, e ∙ ap (λ x. front ++ x) w.2 ∙ sym (append_assoc front w.0 w.1), (short, front, w.0, refl, s, w.3), w.4)

-- where others follow, the last of some pieces doesn't end the message
unended : (p : Piece) (ps : List Piece) (q : Piece) (qs : List Piece) → EndsOnce ((p ∷ ps) ++ (q ∷ qs)) → (ends_message p ps ≡ false) × EndsOnce (q ∷ qs)
unended p [] q qs e = e
unended p (r ∷ ps) q qs e = unended r ps q qs e.1

ended : (p : Piece) (ps : List Piece) → EndsOnce ((p ∷ ps) ++ []) → ends_message p ps ≡ true
ended p [] e = e
ended p (r ∷ ps) e = ended r ps e.1

-- one run more lies after others
pub between_on : (bytes : List ℕ) (from at next : ℕ) (done : List Run) (r : Run) → LieBetween bytes from done at → BeginsWithRun r (drop next bytes) (drop at bytes) → LieBetween bytes from (done ++ r ∷ []) next
between_on bytes from at next [] r l b = (next, subst (λ n. BeginsWithRun r (drop next bytes) (drop n bytes)) (sym l) b, refl)
between_on bytes from at next (d ∷ done) r l b = (l.0, l.1, between_on bytes l.0 at next done r l.2 b)

-- the runs that some bytes spell lie one after another there
pub walked : (profile : Profile) (rs : List Run) (bytes done left : List ℕ) (at : ℕ) → AllByRecursion (IsRun profile) rs → SpellsPieces (all_pieces rs) left → (rs ≡ [] → ⊥) → EndsOnce (all_pieces rs)
    → (rest : List ℕ) → bytes ≡ done ++ (left ++ rest) → at ≡ length done → AreWalked bytes at rs (at + length left)
walked profile [] bytes done left at each s some e rest b a = absurd (some refl)
walked profile (r ∷ []) bytes done left at each s some e rest b a =
    let w = spell_split (pieces r) [] left s in
    let none : left ≡ w.0 = w.2 ∙ ap (λ x. w.0 ++ x) w.4 ∙ append-nil w.0 in
    let here : drop at bytes ≡ w.0 ++ rest = ap (drop at) b ∙ drop_at done (left ++ rest) at (sym a) ∙ ap (λ x. x ++ rest) none in
    let n = length-append done left in
    let there : drop (at + length left) bytes ≡ rest =
    ap (drop (at + length left)) (b ∙ sym (append_assoc done left rest)) ∙ drop_at (done ++ left) rest (at + length left) (omega (arith, n, a)) in (
      at + length left,
      record { read = read_standard profile r each.0; front = w.0; spelled = w.3; joined = here ∙ ap (λ x. w.0 ++ x) (sym there) },
      ended r.initial r.later e,
      refl,
    )
walked profile (r ∷ q ∷ rs) bytes done left at each s some e rest b a =
    let w = spell_split (pieces r) (all_pieces (q ∷ rs)) left s in
    let u = unended r.initial r.later q.initial (q.later ++ all_pieces rs) e in
    let regroup : (w.0 ++ w.1) ++ rest ≡ w.0 ++ (w.1 ++ rest) = append_assoc w.0 w.1 rest in
    let all : bytes ≡ (done ++ w.0) ++ (w.1 ++ rest) = b ∙ ap (λ x. done ++ (x ++ rest)) w.2 ∙ ap (λ x. done ++ x) regroup ∙ sym (append_assoc done w.0 (w.1 ++ rest)) in
    let here : drop at bytes ≡ w.0 ++ (w.1 ++ rest) = ap (drop at) b ∙ drop_at done (left ++ rest) at (sym a) ∙ ap (λ x. x ++ rest) w.2 ∙ regroup in
    let n = length-append done w.0 in
    let k : at + length w.0 ≡ length (done ++ w.0) = omega (arith, n, a) in
    let there : drop (at + length w.0) bytes ≡ w.1 ++ rest = ap (drop (at + length w.0)) all ∙ drop_at (done ++ w.0) (w.1 ++ rest) _ (sym k) in
    let size = ap length w.2 ∙ length-append w.0 w.1 in
    let end : at + length w.0 + length w.1 ≡ at + length left = omega (arith, size) in (
      at + length w.0,
      record { read = read_standard profile r each.0; front = w.0; spelled = w.3; joined = here ∙ ap (λ x. w.0 ++ x) (sym there) },
      u.0,
      subst (AreWalked bytes (at + length w.0) (q ∷ rs)) end (walked profile (q ∷ rs) bytes (done ++ w.0) w.1 (at + length w.0) each.1 w.4 (λ x. cc) u.1 rest all k),
    )

-- a front of a front, and what is after it
front_of : (n m : ℕ) (xs : List ℕ) → n ≤ m → take m xs ≡ take n xs ++ drop n (take m xs)
front_of n m xs h = sym (take-append-drop n (take m xs)) ∙ ap (λ x. x ++ drop n (take m xs)) (take-take n m xs h)

pub checks_walked : (set : Sets) (holds : Conditions) → ChecksAreWalked set holds
checks_walked set holds limits input v count s h =
    let d = s.1.0 in
    let m = d.spelling.message in
    let end : 0 + length (take v.taken input) ≡ v.taken = let n = length-take-le v.taken input s.0 in omega (arith, n) in
    let w = walked limits.profile d.runs (take count input) [] (take v.taken input) 0 m.each_run d.spelling.spelled (λ e. subst (λ rs. BeginsOnce (all_pieces rs)) e m.begins) m.ends
    (drop v.taken (take count input)) (front_of v.taken count input h) refl in
    subst (λ rs. AreWalked (take count input) 0 rs v.taken) s.1.1 (subst (AreWalked (take count input) 0 d.runs) end w)
