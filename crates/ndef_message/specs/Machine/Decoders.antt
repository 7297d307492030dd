-- The state that a decoder shows, and its steps for bytes of one record or of one field.
use Rattle.std.specs.Prelude.{◌≡◌, ◌≢◌, ◌+◌, ◌-◌, ◌<◌, ◌≤◌, ℕ, Bool, List, length, take, Some, None, is_some}
use Rattle.ndef_format.specs.Limits.{LimitValues}
use Rattle.ndef_lang.specs.declared.record_language.RecordLanguage.{Ghosts}
use Rattle.ndef_message.specs.Machine.Points.{Point}
use Rattle.ndef_format.specs.declared.refusal.Refusal.{Refusal}
use Rattle.ndef_message.specs.Machine.DecoderState.{DecoderMatchesInput, Failed, Takes}
use Rattle.ndef_message.specs.Machine.Fronts.{Fronts, SomeLed, ForEachInput}
use Rattle.ndef_message.specs.Machine.State.{answer_of}
use Rattle.ndef_message.specs.Opened.{no_octets}
use Rattle.ndef_message.specs.declared.decoder.Decoder.{Decoder}
use Rattle.ndef_message.specs.declared.decoder.DecodeStep.{DecodeStep}
use Rattle.ndef_message.specs.declared.decoder.DecodeStep.TheVariants as took
use Rattle.ndef_message.specs.declared.phase.Phase.TheVariants as phases

-- its limits
abbrev pub decoder_limits : {L : Type 0} {language : Ghosts L} → Decoder L language → LimitValues
decoder_limits d = d.checker.limits

-- the decoder took these bytes, a refused one with them: they end these records, and this is the point before the next
-- byte, or before the refused one
abbrev pub DecoderReached : {L : Type 0} {language : Ghosts L} → Decoder L language → Fronts Point
DecoderReached d = DecoderMatchesInput d.checker d.failed d.begun

-- an allocation failed: for good
abbrev pub has_failed : {L : Type 0} {language : Ghosts L} → Decoder L language → Bool
has_failed d = is_some d.failed

-- the message goes on, and no allocation failed, so that a call that began at a place may take some of these bytes
pub record MayTake {L : Type 0} {language : Ghosts L} (d : Decoder L language) (place : ℕ)
    (bytes : List ℕ) : Type 0 where
  pub going : answer_of d.checker.state.phase 0 ≡ None
  pub unfailed : d.failed ≡ None
  pub begun : ∥ SomeLed (Failed language.payloads d.checker.limits place) ∥₁
  pub some : 0 < length bytes

-- a call that began at a place took some of these bytes, which its checker has counted, and answers so
pub record HasTaken {L : Type 0} {language : Ghosts L} (old new : Decoder L language) (place : ℕ) (bytes : List ℕ)
    (answer : DecodeStep) : Type 0 where
  pub limits : new.checker.limits ≡ old.checker.limits
  pub some : old.checker.taken < new.checker.taken
  pub most : new.checker.taken ≤ old.checker.taken + length bytes
  pub unfailed : answer ≢ took.Failed → new.failed ≡ None
  pub failed : answer ≡ took.Failed → (new.failed ≡ Some place) × (new.begun ≡ no_octets)
  pub going : answer ≡ took.More → answer_of new.checker.state.phase 0 ≡ None
  pub refused : (refusal : Refusal) → answer ≡ took.Refused refusal
      → new.checker.state.phase ≡ phases.Refused refusal
  pub takes : ForEachInput (DecoderReached old) (λ front given point.
      Takes language.payloads old.checker.limits (DecoderReached new) front given
      (take (new.checker.taken - old.checker.taken) bytes) answer)
