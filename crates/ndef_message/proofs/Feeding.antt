-- Bytes of one field after another.
use Rattle.std.proofs.Common.{◌≡◌, ◌≢◌, ℕ, ◌+◌, ◌<◌, ◌≤◌, ◌^◌, inl, inr, refl, sym, ◌∙◌, ap, subst, arith, List, [], ◌∷◌, ◌++◌, length, take, drop, append_assoc, Some, None, get_or}
use Rattle.std.proofs.lemmas.List.{append-nil, take_all, take-append-drop}
use Rattle.ndef_format.specs.Messages.{Item}
use Rattle.ndef_format.specs.Limits.{LimitValues, AreInRange}
use Rattle.ndef_lang.specs.StepLaws.{rest, take_rests}
use Rattle.ndef_lang.specs.declared.record_language.RecordLanguage.{Ghosts}
use Rattle.ndef_message.specs.Machine.Checkers.{CheckerReached}
use Rattle.ndef_format.specs.Accepted.{IsAccepted, IsViable}
use Rattle.ndef_message.specs.Machine.Points.{Point, IsAtPoint}
use Rattle.ndef_message.specs.Machine.Moves.{point_with}
use Rattle.ndef_message.specs.Machine.Fronts.{SomeLed, Fronts, ForEachInput, IsReachable, Feeds}
use Rattle.ndef_message.specs.Machine.State.{answer_of, Matches, IsConsistentAt, Reached, Onward, MatchesInput}
use Rattle.ndef_message.specs.Machine.Format.{FormatLaws}
use Rattle.ndef_format.specs.Refusals.{Refuses}
use Rattle.ndef_message.specs.declared.checker.Checker.{Checker}
use Rattle.ndef_message.specs.declared.fed.Fed.{Fed}
use Rattle.ndef_message.specs.declared.fed.Fed.TheVariants as fed
use Rattle.ndef_message.specs.declared.phase.Phase.{Phase}
use Rattle.ndef_message.specs.declared.phase.Phase.TheVariants as phases
use Rattle.ndef_message.specs.declared.state.State.{State}
use Rattle.ndef_message.proofs.Octets.{not_refused}
use Rattle.ndef_message.proofs.Ended.{viable_bounded, greatest_small, unended, ended, refuses, done_point}

module _ {L : Type 0} (language : Ghosts L) (limits : LimitValues) (state : State L) where
  -- where no answer is due nothing was refused
  pub going : (taken : ℕ) (bytes : List ℕ) (given : List Item) (point : Point) → answer_of state.phase taken ≡ None → Reached language limits state bytes given point
      → IsConsistentAt language limits state bytes given point
  going taken bytes given point e (inl s) = s
  going taken bytes given point e (inr s) = absurd (let q = sym e ∙ ap (λ p. answer_of p taken) s.phase_is in cc)

  pub not_done : (taken : ℕ) → answer_of state.phase taken ≡ None → state.phase ≢ phases.Done
  not_done taken e d = let q = sym e ∙ ap (λ p. answer_of p taken) d in cc

  pub some_led : (taken : ℕ) → answer_of state.phase 0 ≡ None → SomeLed (MatchesInput language limits state taken) → SomeLed (IsConsistentAt language limits state)
  some_led taken e w = (w.0, w.1, w.2, going 0 w.0 w.1 w.2 e w.3.1)

  -- what was taken is bounded
  pub taken_small : FormatLaws → AreInRange limits → (taken : ℕ) → answer_of state.phase 0 ≡ None → SomeLed (MatchesInput language limits state taken) → taken + 1 ≤ 2 ^ 60
  taken_small laws range taken e w =
      let s = going 0 w.0 w.1 w.2 e w.3.1 in
      let n = viable_bounded laws language.payloads limits w.0 s.viable in
      let m = greatest_small limits range in
      let k = w.3.0 in
      omega arith

  -- the bytes lead on
  pub matches_input_on : (bytes : List ℕ) (given : List Item) (point : Point) (t : List ℕ) (taken : ℕ) → taken ≡ length (bytes ++ t) → Onward language limits state bytes given point t
      → IsReachable (MatchesInput language limits state taken) (bytes ++ t)
  matches_input_on bytes given point t taken e (inl w) = (w.0, w.1, (e, inl w.3))
  matches_input_on bytes given point t taken e (inr w) = (given, point_with point w.0, (e, inr w.3))

-- what led to the old fields leads, with the first of these bytes, to the new ones
abbrev pub Sofar : Fronts Point → Fronts Point → List ℕ → ℕ → Type 0
Sofar old new bytes at = ForEachInput old (λ front given point. IsReachable new (front ++ take at bytes))

-- what led to this front leads, with the first of these bytes, to the new fields
abbrev pub Here : Fronts Point → (front bytes : List ℕ) → ℕ → Type 0
Here new front bytes at = IsReachable new (front ++ take at bytes)

pub sofar_start : (old : Fronts Point) (bytes : List ℕ) → Sofar old old bytes 0
sofar_start old bytes front given point x = (given, point, subst (λ y. old y given point) (sym (append-nil front)) x)

-- the first `at` bytes after a front, and `n` more
pub some_more : (front bytes : List ℕ) (at n : ℕ) → (front ++ take at bytes) ++ take n (rest bytes at) ≡ front ++ take (at + n) bytes
some_more front bytes at n = append_assoc front (take at bytes) (take n (rest bytes at)) ∙ ap (λ y. front ++ y) (take_rests bytes at n)

pub sofar_some : (old mid new : Fronts Point) (bytes : List ℕ) (at n : ℕ) → Sofar old mid bytes at
    → ForEachInput mid (λ front given point. IsReachable new (front ++ take n (rest bytes at))) → Sofar old new bytes (at + n)
sofar_some old mid new bytes at n s f front given point x =
    let w = s front given point x in
    subst (IsReachable new) (some_more front bytes at n) (f (front ++ take at bytes) w.0 w.1 w.2)

module _ (laws : FormatLaws) {L : Type 0} {language : Ghosts L} (c : Checker L language) (range : AreInRange c.limits) where
  feeds_here : (phase : Phase) → c.state.phase ≡ phase → (front bytes : List ℕ) (given : List Item) (point : Point) (at : ℕ) (answer : Fed) → answer_of phase at ≡ Some answer → at ≤ length bytes
      → CheckerReached c (front ++ take at bytes) given point → Feeds language.payloads language.reasons c.limits (CheckerReached c) front bytes answer
  feeds_here phases.Head w front bytes given point at answer e h k = cc
  feeds_here (phases.Type x y) w front bytes given point at answer e h k = cc
  feeds_here (phases.Id x y) w front bytes given point at answer e h k = cc
  feeds_here (phases.Payload x y) w front bytes given point at answer e h k = cc
  feeds_here phases.Done w front bytes given point at answer e h k =
      let q : fed.Done at ≡ answer = cc in
      subst (Feeds language.payloads language.reasons c.limits (CheckerReached c) front bytes) q (h, whole k.1, (given, point, k))
    where
      whole : Reached language c.limits c.state (front ++ take at bytes) given point → IsAccepted language.payloads c.limits (front ++ take at bytes)
      whole (inl s) =
          let d = done_point language c.limits c.state point w s.matches in
          ended laws language.payloads c.limits range (front ++ take at bytes) given d.0 (subst (IsAtPoint c.limits (front ++ take at bytes) given) d.1 s.at) s.viable
      whole (inr s) = absurd (let q = sym w ∙ s.phase_is in cc)
  feeds_here (phases.Refused refusal) w front bytes given point at answer e h k =
      let q : fed.Refused refusal ≡ answer = cc in
      subst (Feeds language.payloads language.reasons c.limits (CheckerReached c) front bytes) q (by_side k.1)
    where
      by_side : Reached language c.limits c.state (front ++ take at bytes) given point → Feeds language.payloads language.reasons c.limits (CheckerReached c) front bytes (fed.Refused refusal)
      by_side (inl s) = absurd (not_refused language c.limits c.state refusal point w s.matches)
      by_side (inr s) =
          let same : s.refusal ≡ refusal = (let p = sym s.phase_is ∙ w in cc) in
          let all : (front ++ take at bytes) ++ drop at bytes ≡ front ++ bytes = append_assoc front (take at bytes) (drop at bytes) ∙ ap (λ y. front ++ y) (take-append-drop at bytes) in
          let r = refuses laws range (front ++ take at bytes) (drop at bytes) given point s in
          let r1 = subst (λ y. (s.refusal.at < length y) × Refuses language.payloads language.reasons c.limits y s.refusal × (front ++ take at bytes ≡ take (s.refusal.at + 1) y)) all r in
          let r2 = subst (λ y. (y.at < length (front ++ bytes)) × Refuses language.payloads language.reasons c.limits (front ++ bytes) y × (front ++ take at bytes ≡ take (y.at + 1) (front ++ bytes))) same r1 in
          (r2.0, r2.1, (given, point, subst (λ y. CheckerReached c y given point) r2.2 k))

  module _ (limits : LimitValues) (same : c.limits ≡ limits) (front bytes : List ℕ) (at : ℕ) where
    pub feeds_answer : (answer : Fed) → answer_of c.state.phase at ≡ Some answer → at ≤ length bytes → IsReachable (CheckerReached c) (front ++ take at bytes)
        → Feeds language.payloads language.reasons limits (CheckerReached c) front bytes answer
    feeds_answer answer e h k =
        subst (λ l. Feeds language.payloads language.reasons l (CheckerReached c) front bytes answer) same (feeds_here c.state.phase refl front bytes k.0 k.1 at answer e h k.2)

    pub feeds_more : answer_of c.state.phase at ≡ None → at ≡ length bytes → IsReachable (CheckerReached c) (front ++ take at bytes)
        → Feeds language.payloads language.reasons limits (CheckerReached c) front bytes fed.More
    feeds_more e h k =
        let all : front ++ take at bytes ≡ front ++ bytes = ap (λ y. front ++ y) (take_all at bytes (omega arith)) in
        let s = going language c.limits c.state at (front ++ take at bytes) k.0 k.1 e k.2.1 in
        let no : ¬ IsAccepted language.payloads c.limits (front ++ bytes) = λ d.
        let u = unended laws language.payloads c.limits range (front ++ take at bytes) k.0 k.1 s.at (subst (IsAccepted language.payloads c.limits) (sym all) d) in
        let m = subst (Matches language c.limits c.state) u.1 s.matches in
        not_done language c.limits c.state at e m.1 in
        subst (λ l. Feeds language.payloads language.reasons l (CheckerReached c) front bytes fed.More) same
        (subst (IsViable language.payloads c.limits) all s.viable, no, subst (IsReachable (CheckerReached c)) all k)

-- ---- the first byte
pub take_one : (xs : List ℕ) → 0 < length xs → take 1 xs ≡ get_or xs 0 0 ∷ []
take_one [] h = absurd (omega arith)
take_one (x ∷ xs) h = refl
