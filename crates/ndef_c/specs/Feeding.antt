-- The answer to a message whose bytes come in parts.
use Rattle.std.specs.Prelude.{◌≡◌, ◌≢◌, ℕ, ◌==◌, ◌⊎◌, ◌↔◌, if◌then◌else◌, List, length}
use Rattle.ndef_format.specs.Records.{AreOctets}
use Rattle.ndef_format.specs.Limits.{LimitValues}
use Rattle.ndef_format.specs.Payloads.{Sets, IsTypedPayload}
use Rattle.ndef_format.specs.Reasons.{Conditions, NoReason}
use Rattle.ndef_format.specs.NestedReasons.{TypedReason}
use Rattle.ndef_message.specs.Machine.Taken.{WasFed}
use Rattle.ndef_c.specs.Checks.{ChecksPayloads, ChecksTo, LeavesPayloads, MayBeSet, limits_of}
use Rattle.ndef_c.specs.declared.status.TheConstants.{OK, REFUSED, BAD_ARGUMENT, MORE}
use Rattle.ndef_c.specs.declared.limits.NdefLimits.{NdefLimits}
use Rattle.ndef_c.specs.declared.checking.NdefChecked.{NdefChecked}
use Rattle.ndef_c.specs.declared.feeding.NdefChecker.{NdefChecker}
use Rattle.ndef_c.specs.declared.feeding.Looking.{Looking}
use Rattle.ndef_c.specs.declared.feeding.Looking.TheVariants as looking

-- the limits by which a checker was begun, and all the bytes that it was fed since
pub record FedSoFar : Type 0 where
  pub limits : NdefLimits
  pub bytes : List ℕ

-- a checker with these limits was fed these bytes, for any limits; 2 selects that no payload is
-- validated
abbrev pub HasLooked : Looking → NdefLimits → List ℕ → Type 0
HasLooked looking.Nothing limits bytes = ¬ MayBeSet limits
HasLooked (looking.Typed c) limits bytes =
    MayBeSet limits × ChecksPayloads limits × WasFed c (limits_of limits) bytes
HasLooked (looking.Opaque c) limits bytes =
    MayBeSet limits × LeavesPayloads limits × WasFed c (limits_of limits) bytes

-- it was begun by these limits, and fed these bytes since
abbrev pub IsFed : NdefChecker → FedSoFar → Type 0
IsFed checker so_far = HasLooked checker.looking so_far.limits so_far.bytes

-- the answer of a checker that is begun by these limits
abbrev pub BeginsTo : NdefLimits → (status : ℕ) → Type 0
BeginsTo limits status =
    (MayBeSet limits × (status ≡ OK)) ⊎ ((¬ MayBeSet limits) × (status ≡ BAD_ARGUMENT))

-- the answer of a check for this answer of a checker: it doesn't separate bytes that end too early
-- from others
abbrev pub checked_status : ℕ → ℕ
checked_status status = if status == MORE then REFUSED else status

-- NDEF 1.0, messages: the answer to all the bytes so far is the answer of a check of them, and
-- that more are needed where they are refused only because they end.
pub record FeedsTo (set : Sets) (holds : Conditions) (limits : LimitValues) (bytes : List ℕ) (status : ℕ)
    (out : NdefChecked) : Type 0 where
  pub checks : ChecksTo set holds limits bytes (checked_status status) out
  pub more : (status ≡ MORE) ↔ ((status ≢ OK) × (out.place ≡ length bytes))

-- if no payload is validated, each is one of its type, and none is refused for its octets
abbrev pub AnyPayload : Sets
AnyPayload tnf name records profile s = AreOctets s

abbrev pub NoCondition : Conditions
NoCondition tnf name records profile s b = NoReason

-- the answer to all the bytes so far, where 2 selects that no payload is validated
pub record AnswersFed (limits : NdefLimits) (bytes : List ℕ) (status : ℕ) (before after : NdefChecked) : Type 0 where
  pub bad : (status ≡ BAD_ARGUMENT) ↔ (¬ MayBeSet limits)
  pub kept : status ≡ BAD_ARGUMENT → after ≡ before
  pub typed : MayBeSet limits → ChecksPayloads limits
      → FeedsTo IsTypedPayload TypedReason (limits_of limits) bytes status after
  pub opaque : MayBeSet limits → LeavesPayloads limits
      → FeedsTo AnyPayload NoCondition (limits_of limits) bytes status after

-- ---- law

-- A check of all the bytes so far answers the same, except that it has no status for needing more.
abbrev pub FeedsAreChecks : Sets → Conditions → Type 0
FeedsAreChecks set holds =
    (limits : LimitValues) (bytes : List ℕ) (fed checked : ℕ) (out other : NdefChecked)
    → FeedsTo set holds limits bytes fed out → ChecksTo set holds limits bytes checked other
    → (checked ≡ checked_status fed) × (other ≡ out)
