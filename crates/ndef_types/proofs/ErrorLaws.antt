-- A handover error payload has one error as its value, and the payload that is written for an error has that value.
use Rattle.std.proofs.Common.{◌≡◌, ℕ, List, [], ◌∷◌, refl, sym, ◌∙◌}
use Rattle.ndef_format.specs.Handovers.{IsError}
use Rattle.ndef_format.specs.Reasons.{NoReason}
use Rattle.ndef_types.specs.Decoding.{OneValue, EachHasValue, ValuesRoundTrip, WritesPayloads}
use Rattle.ndef_types.specs.Values.{ErrorValue, IsErrorValue, StandsForError, WritesError, error_payload}
use Rattle.ndef_types.proofs.RoundTripLemmas.{round_trip}

pub one_error : OneValue IsError StandsForError
one_error payload v w h x y =
    let e : error_payload v ≡ error_payload w = sym x ∙ y in
    let a : v.reason ≡ w.reason = cc in
    let b : v.detail ≡ w.detail = cc in
    λ i. record { reason = a i; detail = b i }

pub each_error : EachHasValue IsError StandsForError IsErrorValue
each_error [] h = absurd h
each_error (reason ∷ detail) h = (record { reason = reason; detail = detail }, (h, refl))

written : (v : ErrorValue) (payload : List ℕ) → IsErrorValue v → WritesError v payload → IsError payload × StandsForError payload v
written v payload h e = (rw e h, e)

pub error_written : WritesPayloads IsError IsErrorValue WritesError
error_written v payload h e = (written v payload h e).0

pub errors_round_trip : ValuesRoundTrip IsError (λ s b. NoReason) StandsForError IsErrorValue WritesError
errors_round_trip = round_trip IsError (λ s b. NoReason) StandsForError IsErrorValue WritesError written one_error
