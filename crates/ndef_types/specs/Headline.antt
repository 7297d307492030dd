-- The headline: what reading an input answers, over the payloads that the standards define.
use Rattle.std.specs.Prelude.{◌≡◌, ◌≤◌, ℕ, List, length, take, drop, Option, Some, Result, Ok, Err, ⊤}
use Rattle.ndef_format.specs.Accepted.{Accepted, IsAccepted}
use Rattle.ndef_format.specs.Limits.{LimitValues}
use Rattle.ndef_format.specs.Messages.{Item}
use Rattle.ndef_format.specs.NestedReasons.{TypedReason}
use Rattle.ndef_format.specs.Payloads.{IsTypedPayload}
use Rattle.ndef_format.specs.Refusals.{Refuses}
use Rattle.ndef_message.specs.Readings.{ReadsInput, RoundTrips}
use Rattle.ndef_message.specs.declared.message_reading.Read.{Read}
use Rattle.ndef_message.specs.declared.message_reading.ReadError.{ReadError}
use Rattle.ndef_message.specs.declared.message_reading.ReadError.TheVariants as errors

-- NDEF 1.0, messages: the input begins with this message and with no other, and what is after its bytes is to come
pub record IsTheMessage (limits : LimitValues) (input : List ℕ) (after : Option (List ℕ)) (read : Read) : Type 0 where
  pub within : read.taken ≤ length input
  pub accepted : Accepted IsTypedPayload limits read.message (take read.taken input)
  pub after_it : after ≡ Some (drop read.taken input)
  pub alone : (m : List Item) (count : ℕ) → count ≤ length input → Accepted IsTypedPayload limits m (take count input)
      → (m ≡ read.message) × (count ≡ read.taken)

-- The answer to an input: the one message with which it begins; or it begins with none, and is refused at the first
-- byte after which no continuation is one, or where it ends, for the reason of the definitions; unless the source or
-- memory failed.
abbrev pub IsTheAnswer : LimitValues → (input : List ℕ) → (after : Option (List ℕ)) → Result Read ReadError → Type 0
IsTheAnswer limits input after (Ok read) = IsTheMessage limits input after read
IsTheAnswer limits input after (Err (errors.Refused refusal)) =
    Refuses IsTypedPayload TypedReason limits input refusal × (after ≡ Some (drop refusal.at input))
    × ((count : ℕ) → ¬ IsAccepted IsTypedPayload limits (take count input))
IsTheAnswer limits input after (Err errors.ReadFault) = ⊤
IsTheAnswer limits input after (Err errors.NoMemory) = ⊤

-- What meets clause `input` of `read_message` is the answer; and reading what an encoder wrote of a message gives it
-- back.
pub record Headline : Type 0 where
  pub answers : (limits : LimitValues) (input : List ℕ) (after : Option (List ℕ)) (result : Result Read ReadError)
      → ReadsInput IsTypedPayload TypedReason limits input after result → IsTheAnswer limits input after result
  pub round_trip : RoundTrips IsTypedPayload TypedReason
