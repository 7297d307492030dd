-- The place and the reason of a refusal.
use Rattle.std.specs.Prelude.{◌<◌, ◌≤◌, ◌+◌, ℕ, List, length, take, ◌≡◌, Option, unwrap_or, slice_index}
use Rattle.ndef_format.specs.Limits.{LimitValues}
use Rattle.ndef_format.specs.Payloads.{Sets}
use Rattle.ndef_format.specs.Accepted.{IsAccepted, IsViable}
use Rattle.ndef_format.specs.Messages.{Item}
use Rattle.ndef_format.specs.HeadReasons.{reason_for}
use Rattle.ndef_format.specs.Positions.{Field, InHead, InType, InId, InPayload, AtEnd, record_so_far, spot_after, begun_record, IsAt}
use Rattle.ndef_format.specs.Reasons.{Conditions, IsLowest}
use Rattle.ndef_format.specs.Records.{Piece, Run}
use Rattle.ndef_format.specs.declared.reason.Reason.{Reason}
use Rattle.ndef_format.specs.declared.reason.Reason.TheVariants.{DoesNotFit, EndOfInput}
use Rattle.ndef_format.specs.declared.spot.Spot.{Spot}
use Rattle.ndef_format.specs.declared.refusal.Refusal.{Refusal}

-- The first `place` bytes are viable and no message, and with one more byte they aren't viable, or
-- there is none.
pub record IsPlace (set : Sets) (limits : LimitValues) (bytes : List ℕ) (place : ℕ) : Type 0 where
  pub within : place ≤ length bytes
  pub viable : IsViable set limits (take place bytes)
  pub unended : ¬ IsAccepted set limits (take place bytes)
  pub stops : place < length bytes → ¬ IsViable set limits (take (place + 1) bytes)

-- Why an octet is refused, by its field, the spot of its piece and the record that the pieces
-- before it begin: in a head the lowest condition that holds of it, in a payload the lowest of its
-- type, and else that it doesn't fit.
abbrev pub IsReasonOf : Conditions → LimitValues → Spot → Option Item → Field → ℕ → Reason → Type 0
IsReasonOf holds limits spot m (InHead front) b reason =
    reason ≡ unwrap_or (reason_for spot front b) DoesNotFit
IsReasonOf holds limits spot m (InType head name) b reason = reason ≡ DoesNotFit
IsReasonOf holds limits spot m (InId head name id) b reason = reason ≡ DoesNotFit
IsReasonOf holds limits spot m (InPayload head name id content) b reason =
    let item = record_so_far m head name id content in
    IsLowest (holds item.tnf item.kind limits.records limits.profile item.payload b) reason
IsReasonOf holds limits spot m AtEnd b reason = ⊥

-- why it is, after these runs and the pieces of an open one
abbrev pub IsReason : Conditions → LimitValues → List Run → (begun : List Piece) → Field → ℕ
    → Reason → Type 0
IsReason holds limits runs begun =
    IsReasonOf holds limits (spot_after limits runs begun) (begun_record begun)

-- Why the bytes stop there: by the field of the byte at the place, or the input has ended.
pub record IsWhy (holds : Conditions) (limits : LimitValues)
    (bytes : List ℕ) (place : ℕ) (reason : Reason) : Type 0 where
  pub at_end : place ≡ length bytes → reason ≡ EndOfInput
  pub at_byte : place < length bytes
      → (runs : List Run) × (begun : List Piece) × (field : Field)
      × IsAt limits (take place bytes) runs begun field
      × IsReason holds limits runs begun field (slice_index bytes place) reason

-- the bytes, and no more, are refused so
pub record Refuses (set : Sets) (holds : Conditions) (limits : LimitValues)
    (bytes : List ℕ) (refusal : Refusal) : Type 0 where
  pub place : IsPlace set limits bytes refusal.at
  pub why : IsWhy holds limits bytes refusal.at refusal.reason
