-- The handover errors that may be written, and their octets.
use Rattle.std.specs.Prelude.{◌≡◌, ℕ, ◌<◌, ◌+◌, ◌^◌, ◌⊎◌, List, length}
use Rattle.ndef_types.specs.Values.{ErrorValue, IsErrorValue, WritesError}
use Rattle.ndef_c.specs.Errors.{detail_number}
use Rattle.ndef_c.specs.Payloads.{GivesFor}

-- Connection Handover 1.2, Error record: the error of this reason with these data
abbrev pub error_of : (reason : ℕ) → List ℕ → ErrorValue
error_of reason detail = record { reason = reason; detail = detail }

-- Connection Handover 1.2, Error record: a reason of one octet and the data that go with it, which
-- fit in a payload
pub record MayBeError (reason : ℕ) (detail : List ℕ) : Type 0 where
  pub error : IsErrorValue (error_of reason detail)
  pub fits : 1 + length detail < 2 ^ 32

-- Connection Handover 1.2, Error record: a defined reason, and a number that its data can hold
abbrev pub MayBeNumber : (reason number : ℕ) → Type 0
MayBeNumber reason number = (reason ≡ 2) ⊎ (((reason ≡ 1) ⊎ (reason ≡ 3)) × (number < 256))

-- Connection Handover 1.2, Error record: the error of this reason, whose data give this number
pub record IsErrorOf (reason number : ℕ) (v : ErrorValue) : Type 0 where
  pub error : IsErrorValue v
  pub reason_is : v.reason ≡ reason
  pub number_is : detail_number reason v.detail ≡ number

-- the octets that are written for that error are given
pub record GivesError (reason number : ℕ) (before after : List ℕ) (count status : ℕ) : Type 0 where
  pub error : ErrorValue
  pub is : IsErrorOf reason number error
  pub gives : GivesFor WritesError error before after count status
