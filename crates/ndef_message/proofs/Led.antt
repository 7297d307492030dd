-- The bytes that a checker or a decoder took end the records that were given, and reach a field.
use Rattle.std.proofs.Common.{◌≡◌, ℕ, sym, List, [], ◌∷◌, ◌++◌, append-nil, arith, Some, None, inl, inr}
use Rattle.ndef_format.specs.Messages.{Item}
use Rattle.ndef_format.specs.Limits.{LimitValues}
use Rattle.ndef_lang.specs.declared.record_language.RecordLanguage.{Ghosts}
use Rattle.ndef_piece.specs.Walk.{WalksAreCounted}
use Rattle.ndef_message.specs.Machine.Fronts.{ForEachInput}
use Rattle.ndef_format.specs.Payloads.{Sets}
use Rattle.ndef_format.specs.Accepted.{IsViable}
use Rattle.ndef_message.specs.Opened.{IsTaken, HasLed}
use Rattle.ndef_message.specs.Machine.Points.{Point, field_of, IsAtPoint}
use Rattle.ndef_message.specs.Machine.Decoders.{DecoderReached, decoder_limits}
use Rattle.ndef_message.specs.Machine.DecoderState.{DecoderMatchesInput}
use Rattle.ndef_message.specs.Machine.Checkers.{CheckerReached, checker_limits}
use Rattle.ndef_message.specs.declared.checker.Checker.{Checker}
use Rattle.ndef_message.specs.declared.decoder.Decoder.{Decoder}
use Rattle.ndef_message.proofs.Placed.{placed}

-- all bytes were taken
pub taken_all : (set : Sets) (limits : LimitValues) (front : List ℕ) → IsViable set limits front → IsTaken set limits front front
taken_all set limits front v = record { refused = []; split = sym (append-nil front); one = omega arith; viable = v; stops = λ h. absurd (omega arith) }

-- all but the last were, which was refused
pub taken_before : (set : Sets) (limits : LimitValues) (front taken : List ℕ) (byte : ℕ) → front ≡ taken ++ byte ∷ [] → IsViable set limits taken → ¬ IsViable set limits front
    → IsTaken set limits front taken
taken_before set limits front taken byte e v n = record { refused = byte ∷ []; split = e; one = omega arith; viable = v; stops = λ h. n }

-- the bytes that were taken lead there
led_by : WalksAreCounted → (set : Sets) (limits : LimitValues) (taken front : List ℕ) (given : List Item) (point : Point) → IsTaken set limits front taken
    → IsAtPoint limits taken given point → HasLed set limits front given
led_by counted set limits taken front given point t at =
    let p = placed counted limits taken given point at in
    record { taken = taken; accepted = t; runs = p.runs; begun = p.begun; field = field_of point; means = p.means; at = p.at }

pub checker_led : WalksAreCounted → {L : Type 0} {language : Ghosts L} (c : Checker L language)
    → ForEachInput (CheckerReached c) (λ front given point. HasLed language.payloads (checker_limits c) front given)
checker_led counted {language = language} c front given point (t, inl s) =
    led_by counted language.payloads c.limits front front given point (taken_all language.payloads c.limits front s.viable) s.at
checker_led counted {language = language} c front given point (t, inr s) =
    led_by counted language.payloads c.limits s.front front given point (taken_before language.payloads c.limits front s.front s.byte s.split s.viable s.refused) s.at

pub decoder_led : WalksAreCounted → {L : Type 0} {language : Ghosts L} (d : Decoder L language)
    → ForEachInput (DecoderReached d) (λ front given point. HasLed language.payloads (decoder_limits d) front given)
decoder_led counted {language = language} d front given point = by_failed d.failed
  where
    by_failed : (failed : _) → DecoderMatchesInput d.checker failed d.begun front given point → HasLed language.payloads (decoder_limits d) front given
    by_failed None k = checker_led counted d.checker front given point k.0
    by_failed (Some at) k = led_by counted language.payloads d.checker.limits front front given point (taken_all language.payloads d.checker.limits front k.0.viable) k.0.at
