-- The payloads that say one number.
use Rattle.std.specs.Prelude.{◌≡◌, ◌≢◌, ◌==◌, ℕ, List, length, slice_index, Option, Some, None, if◌then◌else◌}
use Rattle.std.specs.Int.{w16, w32, from_be_bytes}
use Rattle.ndef_format.specs.Nested.{IsPayload}
use Rattle.ndef_format.specs.Reasons.{NoReason, reason_number}
use Rattle.ndef_format.specs.declared.kind.Kind.{Kind}
use Rattle.ndef_format.specs.declared.kind.Kind.TheVariants as kinds
use Rattle.ndef_format.specs.declared.profile.Profile.TheVariants.{Strict}
use Rattle.ndef_format.specs.declared.reason.Reason.TheVariants.{DoesNotFit}
use Rattle.ndef_c.specs.Kinds.{kind_number}
use Rattle.ndef_c.specs.Payloads.{RefusesWith}
use Rattle.ndef_c.specs.declared.checking.NdefChecked.{NdefChecked}

-- RTD Smart Poster 1.0 and Connection Handover 1.2: the kind with this number, if its payloads are
-- one number: an action, a size or a collision resolution
abbrev pub number_kind : ℕ → Option Kind
number_kind kind =
    if kind == kind_number kinds.Action then Some kinds.Action
    else (if kind == kind_number kinds.Size then Some kinds.Size
    else (if kind == kind_number kinds.Collision then Some kinds.Collision else None))

-- RTD Smart Poster 1.0 and Connection Handover 1.2: the octets of the number of such a payload
abbrev pub number_size : Kind → Option ℕ
number_size kinds.Action = Some 1
number_size kinds.Size = Some 4
number_size kinds.Collision = Some 2
number_size _ = None

-- .. and their number, most significant octet first
abbrev pub number_of : Kind → List ℕ → ℕ
number_of kinds.Size payload = from_be_bytes w32 payload
number_of kinds.Collision payload = from_be_bytes w16 payload
number_of _ payload = slice_index payload 0

-- RTD Smart Poster 1.0 and Connection Handover 1.2: the payload of the kind that is the number
abbrev pub WritesNumber : Kind → ℕ → List ℕ → Type 0
WritesNumber kind number payload = IsPayload kind Strict payload × (number ≡ number_of kind payload)

-- the payload has more or fewer octets: no payload of that length is one of the kind
pub record RefusesNumber (kind : Kind) (payload : List ℕ) (out : NdefChecked) : Type 0 where
  pub size : number_size kind ≢ Some (length payload)
  pub place : out.place ≡ 0
  pub records : out.records ≡ 0
  pub reason : out.reason ≡ reason_number DoesNotFit

-- ---- law

-- What is refused so is refused as a payload of the kind.
abbrev pub NumbersAreRefused : Type 0
NumbersAreRefused = (kind : Kind) (size : ℕ) (payload : List ℕ) (out : NdefChecked)
    → number_size kind ≡ Some size → RefusesNumber kind payload out
    → RefusesWith (IsPayload kind Strict) (λ s b. NoReason) payload out
