-- The answers to a payload that is decoded, and the laws of the values of payloads.
use Rattle.std.specs.Prelude.{◌≡◌, ◌^◌, ◌<◌, ◌≤◌, ◌⊎◌, ⊤, ℕ, List, length, Result, Ok, Err}
use Rattle.ndef_format.specs.declared.reason.Reason.{Reason}
use Rattle.ndef_format.specs.declared.reason.Reason.TheVariants.{DoesNotFit}
use Rattle.ndef_format.specs.declared.refusal.Refusal.{Refusal}
use Rattle.ndef_format.specs.Nested.{IsNest}
use Rattle.ndef_format.specs.NestedReasons.{NestReason}
use Rattle.ndef_format.specs.declared.profile.Profile.{Profile}
use Rattle.ndef_format.specs.declared.table.Table.{Table}
use Rattle.ndef_lang.specs.Place.{IsRefused}
use Rattle.ndef_value.specs.declared.limits.TheConstants.{MOST_RECORDS}
use Rattle.ndef_types.specs.declared.error.DecodeError.{DecodeError}
use Rattle.ndef_types.specs.declared.error.DecodeError.TheVariants as errors

-- the payloads of a type
abbrev pub Payloads : Type 1
Payloads = List ℕ → Type 0

-- which reasons hold of an octet after the octets of a payload before it
abbrev pub Reasons : Type 1
Reasons = List ℕ → ℕ → Reason → Type 0

-- the value of each payload
abbrev pub Meaning : Type 0 → Type 1
Meaning V = List ℕ → V → Type 0

-- which payload is written for which value
abbrev pub Writing : Type 0 → Type 1
Writing V = V → List ℕ → Type 0

-- -- the answers

-- NDEF 1.0, PAYLOAD_LENGTH: no payload is this long; or the refusal is at the first octet after
-- which nothing of its length is in the set
abbrev pub RefusesPayload : Payloads → Reasons → List ℕ → Refusal → Type 0
RefusesPayload set holds payload refusal =
    ((2 ^ 32 ≤ length payload) × (refusal.at ≡ 0) × (refusal.reason ≡ DoesNotFit))
    ⊎ ((length payload < 2 ^ 32) × IsRefused set holds payload refusal.at refusal.reason)

-- the payload is in the set, and has the value, unless memory runs out; or it is refused
abbrev pub DecodesTo : {V : Type 0} → Payloads → Reasons → Meaning V → List ℕ → Result V DecodeError
    → Type 0
DecodesTo set holds stands payload (Ok value) =
    (length payload < 2 ^ 32) × set payload × stands payload value
DecodesTo set holds stands payload (Err (errors.Refused refusal)) =
    RefusesPayload set holds payload refusal
DecodesTo set holds stands payload (Err errors.NoMemory) = (length payload < 2 ^ 32) × set payload

-- the payload is in the set, and its parts are those that are given; or it is refused
abbrev pub ParsesTo : Payloads → Reasons → List ℕ → Result (List ℕ) Refusal → Type 0
ParsesTo set holds payload (Ok parts) = (length payload < 2 ^ 32) × set payload × (parts ≡ payload)
ParsesTo set holds payload (Err refusal) = RefusesPayload set holds payload refusal

-- NDEF 1.0, PAYLOAD_LENGTH: the octets that are written for the value are more than a payload holds
abbrev pub IsTooLong : {V : Type 0} → Writing V → V → Type 0
IsTooLong written value = (payload : List ℕ) × written value payload × (2 ^ 32 ≤ length payload)

-- ---- laws

-- the value comes back, unless memory runs out
abbrev pub GivesValueBack : {V : Type 0} → V → Result V DecodeError → Type 0
GivesValueBack value (Ok back) = back ≡ value
GivesValueBack value (Err (errors.Refused refusal)) = ⊥
GivesValueBack value (Err errors.NoMemory) = ⊤

-- The payload that was written for a value is decoded to it.
abbrev pub ValuesRoundTrip : {V : Type 0} → Payloads → Reasons → Meaning V → (values : V → Type 0)
    → Writing V → Type 0
ValuesRoundTrip {V} set holds stands values written =
    (value : V) (payload : List ℕ) (result : Result V DecodeError) → values value
    → written value payload
    → length payload < 2 ^ 32
    → DecodesTo set holds stands payload result → GivesValueBack value result

-- A payload has at most one value.
abbrev pub OneValue : {V : Type 0} → Payloads → Meaning V → Type 0
OneValue {V} set stands =
    (payload : List ℕ) (v w : V) → set payload → stands payload v → stands payload w → v ≡ w

-- Each payload of the set has a value.
abbrev pub EachHasValue : {V : Type 0} → Payloads → Meaning V → (values : V → Type 0) → Type 0
EachHasValue {V} set stands values =
    (payload : List ℕ) → set payload → (v : V) × (values v × stands payload v)

-- One payload is written for each value.
abbrev pub OnePayload : {V : Type 0} → (values : V → Type 0) → Writing V → Type 0
OnePayload {V} values written =
    (value : V) → values value → (payload : List ℕ)
    × (written value payload × ((other : List ℕ) → written value other → other ≡ payload))

-- The octets that are written for a value are a payload of the set.
abbrev pub WritesPayloads : {V : Type 0} → Payloads → (values : V → Type 0) → Writing V → Type 0
WritesPayloads {V} set values written =
    (value : V) (payload : List ℕ) → values value → written value payload → set payload

-- Each payload of the set has exactly one value, and the payload that was written for a value is decoded
-- to it.
pub record AreExact {V : Type 0} (set : Payloads) (holds : Reasons) (stands : Meaning V) (values : V
    → Type 0)
    (written : Writing V) : Type 0 where
  pub one : OneValue set stands
  pub each : EachHasValue set stands values
  pub round_trip : ValuesRoundTrip set holds stands values written

-- RTD Smart Poster 1.0 and Connection Handover 1.2: each payload that holds a nested message has
-- exactly one value, and the payload that was written for a value is decoded, for either profile, to it
pub record NestsAreExact {V : Type 0} (table : Table) (stands : Profile → Meaning V) (values : V
    → Type 0)
    (written : Writing V) : Type 0 where
  pub one : (profile : Profile) → OneValue (IsNest table MOST_RECORDS profile) (stands profile)
  pub each : (profile : Profile)
      → EachHasValue (IsNest table MOST_RECORDS profile) (stands profile) values
  pub round_trip : (profile : Profile) →
      ValuesRoundTrip (IsNest table MOST_RECORDS profile) (NestReason table MOST_RECORDS profile) (stands profile)
      values written
