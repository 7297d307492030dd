-- An input that is refused at its first octet.
use Rattle.std.proofs.Common.{◌≡◌, ℕ, ◌<◌, true, refl, sym, ◌∙◌, subst, List, [], ◌∷◌, Some}
use Rattle.std.specs.Prelude.{⊤}
use Rattle.ndef_format.specs.Limits.{LimitValues, AreInRange}
use Rattle.ndef_format.specs.HeadReasons.{reason_for}
use Rattle.ndef_format.specs.Positions.{IsOpen}
use Rattle.ndef_format.specs.Refusals.{Refuses}
use Rattle.ndef_format.specs.declared.refusal.Refusal.{Refusal}
use Rattle.ndef_format.specs.declared.reason.Reason.{Reason}
use Rattle.ndef_format.specs.declared.reason.Reason.TheVariants.{DoesNotFit}
use Rattle.ndef_lang.specs.Machine.TypeName.{no_name}
use Rattle.ndef_lang.specs.RecordLanguage.{AreOfOctets, TakesOthers}
use Rattle.ndef_lang.specs.declared.record_language.RecordLanguage.{Ghosts}
use Rattle.ndef_piece.specs.Walk.{start, spot}
use Rattle.ndef_piece.specs.declared.head_reader.Step.TheVariants as steps
use Rattle.ndef_message.specs.Machine.Format.{FormatLaws}
use Rattle.ndef_message.specs.Machine.Points.{start_point}
use Rattle.ndef_message.specs.Machine.State.{numbers, Stopped}
use Rattle.ndef_message.specs.declared.phase.Phase.TheVariants as phases
use Rattle.ndef_message.specs.declared.state.State.{State}
use Rattle.ndef_message.proofs.Ended.{refuses}
use Rattle.ndef_message.proofs.HeadOctets as heads
use Rattle.ndef_message.proofs.Octets as octets
use Rattle.ndef_message.proofs.Starts.{start_stands}

-- the sets and the conditions of a language, with a machine that keeps nothing of a payload
abbrev kept_none : {L : Type 0} → Ghosts L → Ghosts ⊤
kept_none language = record {
  payloads = language.payloads;
  reasons = language.reasons;
  future = λ s r. ⊤;
  reached = λ s tnf name records profile r. ⊤;
  fitting = λ s lo hi. true;
  reason_of_last = λ s. DoesNotFit;
}

abbrev at_start : LimitValues → State ⊤
at_start limits = record {
  place = numbers (start limits);
  reader = record { spot = spot limits.profile (start limits); octets = []; answer = steps.More };
  payload = tt;
  phase = phases.Head;
  name = no_name;
}

pub first_refused : (laws : FormatLaws) {L : Type 0} (language : Ghosts L) (limits : LimitValues) (range : AreInRange limits)
    → AreOfOctets language.payloads → TakesOthers language.payloads
    → (b : ℕ) (rest : List ℕ) (reason : Reason) → b < 256 → IsOpen (spot limits.profile (start limits)) []
    → reason_for (spot limits.profile (start limits)) [] b ≡ Some reason
    → Refuses language.payloads language.reasons limits (b ∷ rest) (record { at = 0; reason = reason })
first_refused laws language limits range octets_of others b rest reason small some_head reported =
    let s = start_stands laws {language = kept_none language} limits range others (at_start limits) refl refl refl some_head in
    let a = octets.at_head {language = kept_none language} {limits = limits} {state = at_start limits} (start_point limits) refl s in
    let refusal : Refusal = record { at = 0; reason = reason } in
    let t : Stopped (kept_none language) limits (record (at_start limits) { phase = phases.Refused refusal }) (b ∷ []) [] (start_point limits) =
    heads.refused laws {language = kept_none language} {limits = limits} range octets_of others a b (at_start limits).reader
    (λ e. (λ v. (let k = (laws.exact (spot limits.profile (start limits)) [] b small some_head).1 v in let q = sym k ∙ reported in cc), reported)) refl in
    let same : t.refusal ≡ refusal = (let q = sym t.phase_is in cc) in
    let w = refuses laws {language = kept_none language} range (b ∷ []) rest [] (start_point limits) t in
    subst (Refuses language.payloads language.reasons limits (b ∷ rest)) same w.1
