-- A checker after the records that the fast test found right.
use Rattle.std.proofs.Common.{◌≡◌, ℕ, ◌<◌, false, refl, sym, ◌∙◌, ap, subst, inl, inr, arith, List, [], ◌∷◌, length, take, length-append}
use Rattle.std.specs.Prelude.{is_some}
use Rattle.std.proofs.lemmas.List.{length-take-le}
use Rattle.ndef_format.specs.Limits.{LimitValues, AreInRange}
use Rattle.ndef_format.specs.Payloads.{Sets}
use Rattle.ndef_lang.specs.RecordLanguage.{TakesOthers}
use Rattle.ndef_lang.specs.declared.record_language.RecordLanguage.{Ghosts}
use Rattle.ndef_piece.specs.Walk.{start}
use Rattle.ndef_message.specs.Machine.Accepted.{AreTakenRecords, IsAfter}
use Rattle.ndef_message.specs.Machine.Format.{FormatLaws}
use Rattle.ndef_message.specs.Machine.Fronts.{IsReachable}
use Rattle.ndef_message.specs.Machine.Points.{start_point}
use Rattle.ndef_message.specs.Machine.State.{IsConsistentAt, MatchesInput, numbers}
use Rattle.ndef_message.specs.declared.phase.Place.{Place}
use Rattle.ndef_message.specs.declared.state.State.{State}
use Rattle.ndef_message.proofs.Accepting.{reaches_after, records_come}

-- no run is open there
pub passed_outside : (set : Sets) (limits : LimitValues) (input : List ℕ) (taken : ℕ) (place : Place) → AreTakenRecords set limits (numbers (start limits)) input taken place false → place.inside ≡ false
passed_outside set limits input taken place r = let x = r.comes (start limits) refl refl refl in ap (λ p. p.inside) x.place_is ∙ ap is_some x.no_run

-- it is at the start
at_start : {L : Type 0} (language : Ghosts L) (limits own : LimitValues) (old : State L) (count : ℕ) → own ≡ limits → MatchesInput language own old count [] [] (start_point limits) → IsConsistentAt language limits old [] [] (start_point limits)
at_start language limits own old count same m =
    elim m.1 as (λ _. IsConsistentAt language limits old [] [] (start_point limits)) [
      | inl s ↦ subst (λ l. IsConsistentAt language l old [] [] (start_point limits)) same s
      | inr s ↦ absurd (omega (arith, ap length s.split, length-append s.front (s.byte ∷ [])))
    ]

-- these bytes lead to the state after the records
pub resumed : (laws : FormatLaws) {L : Type 0} {language : Ghosts L} (limits own : LimitValues) → AreInRange limits → TakesOthers language.payloads → (old new : State L) (count : ℕ) (input : List ℕ) (taken : ℕ) (place : Place)
    → own ≡ limits → MatchesInput language own old count [] [] (start_point limits) → AreTakenRecords language.payloads limits (numbers (start limits)) input taken place false → 0 < taken → IsAfter limits new place false
    → IsReachable (MatchesInput language own new taken) (take taken input)
resumed laws {language = language} limits own range others old new count input taken place same m r more following =
    let s = at_start language limits own old count same m in
    let x = r.comes (start limits) refl refl refl in
    let n = length-take-le taken input r.within in
    let some : 0 < length (take taken input) = omega (arith, n) in
    let w = reaches_after laws range others s.at s.viable false (records_come x some) new (x.place_is ∙ ap numbers (x.some some)) following in
    subst (λ l. IsReachable (MatchesInput language l new taken) (take taken input)) (sym same) (x.items, w.0, (sym n, inl w.2))
