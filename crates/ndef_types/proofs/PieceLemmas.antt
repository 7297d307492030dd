-- The judgement of a payload whose pieces are taken one after another.
use Rattle.std.proofs.Common.{◌≡◌, ℕ, ◌+◌, ◌-◌, ◌<◌, ◌≤◌, List, [], ◌∷◌, ◌++◌, length, get_or, take, drop, sym, ◌∙◌, ap, subst, inr, arith, append-nil, length-append, length-drop}
use Rattle.std.proofs.Math.ListN.{get_or-append}
use Rattle.std.proofs.Math.Seq.{drop-append_seam}
use Rattle.std.proofs.lemmas.List.{take_all, take_rest, take-append-le, get_or-drop, drop-drop}
use Rattle.ndef_format.specs.declared.reason.Reason.{Reason}
use Rattle.ndef_lang.specs.Language.{Continues, Reaches, PassesBetween, StepsAll}
use Rattle.ndef_format.specs.Reasons.{IsLowest}
use Rattle.ndef_lang.specs.Place.{IsRefused}
use Rattle.ndef_lang.specs.StepLaws.{follows_more, rest, steps_on, take_parts}

nothing_after : (octets more : List ℕ) → length more ≡ 0 → octets ++ more ≡ octets
nothing_after octets [] e = append-nil octets
nothing_after octets (b ∷ more) e = absurd (omega (arith, e))

-- octets that were stepped up to a refused one are the same where more lie after them
steps_before : (old new : List ℕ → Type 0) (piece following : List ℕ) (lo hi k : ℕ) → k < length piece → StepsAll old new piece lo hi k → StepsAll old new (piece ++ following) lo hi k
steps_before old new piece following lo hi k l s = record {
  within = omega (arith, length-append piece following);
  stepped = subst (Continues old new) (sym (take-append-le (k + 1) piece following (omega arith))) s.stepped;
  fits = subst (λ x. PassesBetween (λ r. old (x ++ r)) (lo - k) (hi - k)) (sym (take-append-le k piece following (omega arith))) s.fits;
  refused = λ _. s.refused l;
}

-- at the place that the steps give nothing completes the octets
refused_at : (set new : List ℕ → Type 0) (holds : List ℕ → ℕ → Reason → Type 0) (s : List ℕ) (place : ℕ) (reason : Reason)
    → StepsAll set new s (length s) (length s) place → place < length s → IsLowest (holds (take place s) (get_or s place 0)) reason → IsRefused set holds s place reason
refused_at set new holds s place reason steps l lowest =
    let p = steps.fits in
    inr (
      l,
      (p.rest, (p.passed, omega (arith, p.least, p.most))),
      λ k. steps.refused l (record { rest = k.0; passed = (steps.stepped k.0).1 k.1.0; least = omega (arith, k.1.1); most = omega (arith, k.1.1) }),
      lowest,
    )

module _ (payload piece following : List ℕ) (at left : ℕ) (counted : at + left ≡ length payload) (split : drop at payload ≡ piece ++ following) where
  -- no more octets are in the piece than are left
  pub piece_within : length piece ≤ left
  piece_within = omega (arith, ap length split, length-append piece following, length-drop at payload)

  taken_in : (k : ℕ) → k ≤ length piece → take (at + k) payload ≡ take at payload ++ take k piece
  taken_in k h = take_parts payload at k ∙ ap (λ s. take at payload ++ take k s) split ∙ ap (λ s. take at payload ++ s) (take-append-le k piece following h)

  taken_whole : take (at + length piece) payload ≡ take at payload ++ piece
  taken_whole = taken_in (length piece) (omega arith) ∙ ap (λ s. take at payload ++ s) (take_all (length piece) piece (omega arith))

  -- after the piece the others are left
  pub after_piece : drop (at + length piece) payload ≡ following
  after_piece = sym (drop-drop (length piece) at payload) ∙ ap (drop (length piece)) split ∙ drop-append_seam piece following

  module _ (set mid new : List ℕ → Type 0) (stepped : Continues set mid (take at payload)) where
    -- all of the piece were stepped
    pub stepped_after : Continues mid new piece → Continues set new (take (at + length piece) payload)
    stepped_after f = subst (Continues set new) (sym taken_whole) (follows_more set mid new (take at payload) piece stepped f)

    pub reached_after : (old reached : List ℕ → Type 0) → Reaches old reached (take (length piece + 1) piece) → old (take at payload) → reached (take (at + length piece) payload)
    reached_after old reached r o = subst reached (sym taken_whole) (subst (Reaches old reached) (take_all (length piece + 1) piece (omega arith)) r (take at payload) o)

    -- one of them was refused
    pub refused_in : (holds : List ℕ → ℕ → Reason → Type 0) (k : ℕ) (reason : Reason) → StepsAll mid new piece left left k → k < length piece
        → IsLowest (holds (take at payload ++ take k piece) (get_or piece k 0)) reason → IsRefused set holds payload (at + k) reason
    refused_in holds k reason s l lowest =
        let within = piece_within in
        let n : length payload - at ≡ left = omega arith in
        let front = steps_before mid new piece following left left k l s in
        let in_rest : StepsAll mid new (rest payload at) left left k = subst (λ x. StepsAll mid new x left left k) (sym (take_rest payload at ∙ split)) front in
        let in_rest' : StepsAll mid new (rest payload at) (length payload - at) (length payload - at) k = subst (λ i. StepsAll mid new (rest payload at) i i k) (sym n) in_rest in
        let whole = steps_on set mid new payload (length payload) (length payload) at k (omega arith) stepped in_rest' in
        let byte : get_or piece k 0 ≡ get_or payload (at + k) 0 = sym (get_or-append piece following 0 k l) ∙ ap (λ x. get_or x k 0) (sym split) ∙ get_or-drop at payload k 0 in
        let front_is : take at payload ++ take k piece ≡ take (at + k) payload = sym (taken_in k (omega arith)) in
        refused_at set new holds payload (at + k) reason whole (omega arith)
        (subst (λ b. IsLowest (holds (take (at + k) payload) b) reason) byte (subst (λ x. IsLowest (holds x (get_or piece k 0)) reason) front_is lowest))

-- where no piece is left all were stepped
pub all_in : (set new : List ℕ → Type 0) (payload : List ℕ) (at left : ℕ) → at + left ≡ length payload → drop at payload ≡ [] → Continues set new (take at payload) → PassesBetween new left left → set payload
all_in set new payload at left counted none stepped p =
    let n : left ≡ 0 = omega (arith, ap length none, length-drop at payload) in
    let e : take at payload ≡ payload = take_all at payload (omega arith) in
    subst set (nothing_after (take at payload) p.rest (omega (arith, p.least, p.most)) ∙ e) ((stepped p.rest).0 p.passed)
