-- The bytes that a decoder took, and its answers to octets of one field.
use Rattle.std.specs.Prelude.{◌≡◌, ◌+◌, ℕ, List, ◌∷◌, [], ◌++◌, length, Option, Some, None}
use Rattle.ndef_format.specs.Messages.{Item}
use Rattle.ndef_format.specs.Limits.{LimitValues}
use Rattle.ndef_format.specs.Payloads.{Sets}
use Rattle.ndef_lang.specs.declared.record_language.RecordLanguage.{Ghosts}
use Rattle.ndef_message.specs.Decoding.{EndsThere, Wants}
use Rattle.ndef_format.specs.Accepted.{IsAccepted, IsViable}
use Rattle.ndef_message.specs.Machine.Fronts.{Fronts}
use Rattle.ndef_message.specs.Machine.Points.{Point, IsAtPoint, opened_at}
use Rattle.ndef_message.specs.Machine.Checkers.{CheckerReached}
use Rattle.ndef_message.specs.Opened.{Opened, no_octets, AreRecords}
use Rattle.ndef_message.specs.declared.checker.Checker.{Checker}
use Rattle.ndef_message.specs.declared.decoder.DecodeStep.{DecodeStep}
use Rattle.ndef_message.specs.declared.decoder.DecodeStep.TheVariants as took
use Rattle.ndef_message.specs.declared.event.Event.{Event}
use Rattle.ndef_message.specs.declared.event.Event.TheVariants as event
use Rattle.ndef_message.specs.declared.phase.Phase.{Phase}
use Rattle.ndef_message.specs.declared.phase.Phase.TheVariants as phases

-- the answer before another byte is seen
abbrev pub event_of : (failed : Option ℕ) → Phase → Option Event
event_of (Some at) phase = Some (event.Failed (record {}))
event_of None phases.Done = Some event.Over
event_of None (phases.Refused refusal) = Some (event.Refused refusal)
event_of None _ = None

-- The answer to these bytes after that front: they end no record; the last of them ends the next one, and maybe
-- the message; or it is refused; or memory was.
abbrev pub Takes : Sets → LimitValues → (new : Fronts Point) → (front : List ℕ) → (given : List Item)
    → (bytes : List ℕ) → DecodeStep → Type 0
Takes set limits new front given bytes took.More = (next : Point) × new (front ++ bytes) given next
Takes set limits new front given bytes (took.Whole item last) =
    EndsThere set limits (front ++ bytes) (given ++ item ∷ []) last
    × AreRecords limits (front ++ bytes) (given ++ item ∷ [])
    × ((next : Point) × new (front ++ bytes) (given ++ item ∷ []) next)
Takes set limits new front given bytes (took.Refused refusal) = (refusal.at + 1 ≡ length (front ++ bytes))
    × ((next : Point) × new (front ++ bytes) given next)
Takes set limits new front given bytes took.Failed = Wants set limits front given bytes

-- memory was refused after these bytes, and nothing is kept
pub record Failed (set : Sets) (limits : LimitValues) (place : ℕ) (bytes : List ℕ) (given : List Item)
    (point : Point) : Type 0 where
  pub place_is : place ≡ length bytes
  pub at : IsAtPoint limits bytes given point
  pub viable : IsViable set limits bytes
  pub unended : ¬ IsAccepted set limits bytes

-- the checker and the octets kept of the open record are those after these bytes; or memory was refused at a place
abbrev pub DecoderMatchesInput : {L : Type 0} {language : Ghosts L} → Checker L language
    → (failed : Option ℕ) (open_record : Opened) → Fronts Point
DecoderMatchesInput c None o bytes given point = CheckerReached c bytes given point × (o ≡ opened_at point)
DecoderMatchesInput {language = language} c (Some at) o bytes given point =
    Failed language.payloads c.limits at bytes given point × (o ≡ no_octets)
