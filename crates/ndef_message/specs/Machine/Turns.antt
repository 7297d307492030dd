-- The bytes that are read and checked of a source, turn by turn.
use Rattle.std.specs.Prelude.{◌≡◌, ◌<◌, ◌≤◌, ◌-◌, ℕ, true, false, List, [], ◌++◌, length, take, IfSome}
use Rattle.ndef_format.specs.Limits.{LimitValues}
use Rattle.ndef_format.specs.Accepted.{IsAccepted, IsViable}
use Rattle.ndef_format.specs.Refusals.{Refuses}
use Rattle.ndef_lang.specs.declared.record_language.RecordLanguage.{Ghosts}
use Rattle.ndef_message.specs.Decoding.{SoFar, onward}
use Rattle.ndef_message.specs.Machine.Checkers.{CheckerReached, checker_limits}
use Rattle.ndef_message.specs.Machine.Fronts.{IsReachable, ForEachInput}
use Rattle.ndef_message.specs.Sources.{Gave, SourceState}
use Rattle.ndef_message.specs.declared.checker.Checker.{Checker}
use Rattle.ndef_message.specs.declared.event.Event.{Event}
use Rattle.ndef_message.specs.declared.message_checking.CheckStep.{CheckStep}
use Rattle.ndef_message.specs.declared.message_checking.CheckStep.TheVariants as looks
use Rattle.ndef_message.specs.declared.message_reading.ReadStep.{ReadStep}
use Rattle.ndef_message.specs.declared.message_reading.ReadStep.TheVariants as turns

-- the source showed these bytes, and this many of them were taken
pub record Shown (before after : SourceState) (bytes : List ℕ) (count : ℕ) : Type 0 where
  pub some : 0 < length bytes
  pub within : count ≤ length bytes
  pub begins : IfSome before.coming (λ input. (rest : List ℕ) × (input ≡ bytes ++ rest))
  pub taken : Gave before after (take count bytes)

-- The result of a turn from the bytes read so far: the source failed, or has ended, or some of the bytes that it
-- showed were taken, and this was the answer to them.
abbrev pub Turned : (new : SoFar → Type 0) → (brings : List ℕ → ℕ → Event → Type 0) → SoFar
    → (before after : SourceState) → ReadStep → Type 0
Turned new brings s before after turns.Fault = (after.failed ≡ true) × (after.taken ≡ before.taken)
Turned new brings s before after turns.End =
    (after.failed ≡ false) × Gave before after [] × IfSome before.coming (λ input. input ≡ []) × new s
Turned new brings s before after (turns.Fed event) =
    (after.failed ≡ false) × (bytes : List ℕ) × (count : ℕ) × Shown before after bytes count
    × brings bytes count event × new (onward s bytes count event)

-- The result of a turn after a front: the source failed, or has ended, or the bytes that it showed go on, or some of
-- them end the message, or one of them is refused.
abbrev pub Looked : {L : Type 0} → Ghosts L → LimitValues → (new : List ℕ → Type 0) → (front : List ℕ)
    → (before after : SourceState) → CheckStep → Type 0
Looked language limits new front before after looks.Fault = (after.failed ≡ true) × (after.taken ≡ before.taken)
Looked language limits new front before after looks.End =
    (after.failed ≡ false) × Gave before after [] × IfSome before.coming (λ input. input ≡ []) × new front
Looked language limits new front before after looks.More =
    (after.failed ≡ false) × (bytes : List ℕ) × (0 < length bytes) × Gave before after bytes
    × IsViable language.payloads limits (front ++ bytes) × (¬ IsAccepted language.payloads limits (front ++ bytes))
    × new (front ++ bytes)
Looked language limits new front before after looks.Done =
    (after.failed ≡ false) × (bytes : List ℕ) × Gave before after bytes
    × IsAccepted language.payloads limits (front ++ bytes) × new (front ++ bytes)
Looked language limits new front before after (looks.Refused refusal) =
    (after.failed ≡ false) × (bytes : List ℕ) × Shown before after bytes (refusal.at - length front)
    × (refusal.at < length (front ++ bytes))
    × Refuses language.payloads language.reasons limits (front ++ bytes) refusal

-- the result of a turn of a checker, after any front that can be completed
abbrev pub LooksOn : {L : Type 0} {language : Ghosts L} (old new : Checker L language) → (before after : SourceState)
    → CheckStep → Type 0
LooksOn {language = language} old new before after look = ForEachInput (CheckerReached old) (λ front given point.
    IsViable language.payloads (checker_limits old) front
    → Looked language (checker_limits old) (IsReachable (CheckerReached new)) front before after look)
