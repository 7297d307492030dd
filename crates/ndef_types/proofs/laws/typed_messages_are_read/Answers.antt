use Rattle.std.proofs.Common.{List, Ok, Err, Option, Result, ℕ}
use Rattle.ndef_format.specs.Limits.{LimitValues}
use Rattle.ndef_format.specs.NestedReasons.{TypedReason}
use Rattle.ndef_format.specs.Payloads.{IsTypedPayload}
use Rattle.ndef_message.specs.Readings.{NeverRefused, OneReading, ReadsInput}
use Rattle.ndef_message.specs.declared.message_reading.Read.{Read}
use Rattle.ndef_message.specs.declared.message_reading.ReadError.{ReadError}
use Rattle.ndef_message.specs.declared.message_reading.ReadError.TheVariants as errors
use Rattle.ndef_types.specs.Headline.{IsTheAnswer}
use Rattle.ndef_types.proofs.laws.typed_messages_are_read.Goals as goal

answer : OneReading IsTypedPayload TypedReason → NeverRefused IsTypedPayload TypedReason
    → (limits : LimitValues) (input : List ℕ) (after : Option (List ℕ)) (result : Result Read ReadError)
    → ReadsInput IsTypedPayload TypedReason limits input after result → IsTheAnswer limits input after result
answer one never limits input after (Ok read) h =
    record { within = h.0; accepted = h.1; after_it = h.2; alone = λ m count within a. one limits input after read m count h within a }
answer one never limits input after (Err (errors.Refused refusal)) h = (h.0, h.1, λ count. never limits input after refusal count h)
answer one never limits input after (Err errors.ReadFault) h = tt
answer one never limits input after (Err errors.NoMemory) h = tt

pub returns : goal.returns
returns c = record {
  answers = answer c.readings_are_exact.ensures.one c.readings_are_exact.ensures.refused;
  round_trip = c.reading_gives_back.ensures;
}
