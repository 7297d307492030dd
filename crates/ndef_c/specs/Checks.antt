-- The answer of a check of some bytes.
use Rattle.std.specs.Prelude.{◌≡◌, ℕ, ◌<◌, ◌≤◌, ◌%◌, ◌==◌, Ok, length, ◌⊎◌, if◌then◌else◌, List}
use Rattle.ndef_format.specs.Limits.{LimitValues, AreInRange}
use Rattle.ndef_format.specs.Reasons.{reason_number, Conditions}
use Rattle.ndef_format.specs.declared.refusal.Refusal.{Refusal}
use Rattle.ndef_format.specs.declared.profile.Profile.{Profile}
use Rattle.ndef_format.specs.declared.profile.Profile.TheVariants.{Strict, Standard}
use Rattle.ndef_format.specs.Payloads.{Sets}
use Rattle.ndef_format.specs.Refusals.{Refuses}
use Rattle.ndef_message.specs.Views.{Viewed, Views}
use Rattle.ndef_c.specs.declared.status.TheConstants.{OK, REFUSED}
use Rattle.ndef_c.specs.declared.limits.NdefLimits.{NdefLimits}
use Rattle.ndef_c.specs.declared.checking.NdefChecked.{NdefChecked}

-- 1 selects the profile Standard
abbrev pub profile_of : ℕ → Profile
profile_of flags = if flags % 2 == 1 then Standard else Strict

-- the limits of these numbers
abbrev pub limits_of : NdefLimits → LimitValues
limits_of n = record {
  payload = n.payload;
  records = n.records;
  pieces = n.chunks;
  profile = profile_of n.flags;
}

-- they are in range, and no unknown flag is set
abbrev pub MayBeSet : NdefLimits → Type 0
MayBeSet n = AreInRange (limits_of n) × (n.flags ≤ 3)

-- the flag NDEF_OPAQUE is clear, so payloads are checked
abbrev pub ChecksPayloads : NdefLimits → Type 0
ChecksPayloads n = n.flags < 2

-- the flag NDEF_OPAQUE is set, so any payload will do
abbrev pub LeavesPayloads : NdefLimits → Type 0
LeavesPayloads n = 2 ≤ n.flags

-- NDEF 1.0, messages: the bytes begin with a message of this number of bytes and records
pub record TakesMessage (set : Sets) (holds : Conditions) (limits : LimitValues) (bytes : List ℕ)
    (out : NdefChecked) : Type 0 where
  pub viewed : Viewed
  pub views : Views set holds limits bytes (Ok viewed)
  pub place : out.place ≡ viewed.taken
  pub records : out.records ≡ length viewed.runs
  pub reason : out.reason ≡ 0

-- they are refused, there and for that reason
pub record RefusesAt (set : Sets) (holds : Conditions) (limits : LimitValues) (bytes : List ℕ)
    (out : NdefChecked) : Type 0 where
  pub refusal : Refusal
  pub refused : Refuses set holds limits bytes refusal
  pub place : out.place ≡ refusal.at
  pub records : out.records ≡ 0
  pub reason : out.reason ≡ reason_number refusal.reason

-- one or the other, by the status
abbrev pub ChecksTo : Sets → Conditions → LimitValues → List ℕ → (status : ℕ) → NdefChecked → Type 0
ChecksTo set holds limits bytes status out =
    ((status ≡ OK) × TakesMessage set holds limits bytes out)
    ⊎ ((status ≡ REFUSED) × RefusesAt set holds limits bytes out)
