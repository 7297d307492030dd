-- The payload that was written for a value is decoded to it.
use Rattle.std.proofs.Common.{ℕ, List, Ok, Err}
use Rattle.ndef_types.specs.declared.error.DecodeError.TheVariants as errors
use Rattle.ndef_types.specs.Decoding.{Payloads, Reasons, Meaning, Writing, OneValue, ValuesRoundTrip}
use Rattle.ndef_types.specs.DecodingLaws.{set_not_refused}

pub round_trip : {V : Type 0} (set : Payloads) (holds : Reasons) (stands : Meaning V) (values : V → Type 0) (written : Writing V)
    → ((v : V) (s : List ℕ) → values v → written v s → set s × stands s v) → OneValue set stands → ValuesRoundTrip set holds stands values written
round_trip {V} set holds stands values written f one v s (Ok w) h e l d = one s w v d.1 d.2 (f v s h e).1
round_trip {V} set holds stands values written f one v s (Err (errors.Refused refusal)) h e l d = set_not_refused set holds s refusal (f v s h e).0 l d
round_trip {V} set holds stands values written f one v s (Err errors.NoMemory) h e l d = tt
