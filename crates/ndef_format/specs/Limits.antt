-- The greatest size of a message that is read, and the profile of its reader (limits of the reader, not of the
-- standard).
use Rattle.std.specs.Prelude.{ℕ, ◌^◌, ◌<◌, ◌≤◌, List, length, ◌+◌, ◌*◌}
use Rattle.std.specs.List.{AllByRecursion}
use Rattle.ndef_format.specs.Records.{pieces, Run}
use Rattle.ndef_format.specs.Messages.{payload_of}
use Rattle.ndef_format.specs.declared.profile.Profile.{Profile}
use Rattle.ndef_format.specs.declared.profile.Profile.TheVariants.{Strict}

-- the limits of a reader: bytes of a joined payload, records of a message, pieces of a record
pub record LimitValues : Type 0 where
  pub payload : ℕ
  pub records : ℕ
  pub pieces : ℕ
  pub profile : Profile

-- limits that may be set
pub record AreInRange (limits : LimitValues) : Type 0 where
  pub payload : (1 ≤ limits.payload) × (limits.payload < 2 ^ 32)
  pub records : (1 ≤ limits.records) × (limits.records < 2 ^ 16)
  pub pieces : (1 ≤ limits.pieces) × (limits.pieces < 2 ^ 16)

-- limits of a strict reader
abbrev pub strict_limits : (payload records pieces : ℕ) → LimitValues
strict_limits payload records pieces =
    record { payload = payload; records = records; pieces = pieces; profile = Strict }

-- limits for usual tags
abbrev pub usual_limits : LimitValues
usual_limits = strict_limits 1048576 1024 4096

-- the runs are within the limits
pub record IsWithin (limits : LimitValues) (runs : List Run) : Type 0 where
  pub few_records : length runs ≤ limits.records
  pub few_pieces : AllByRecursion (λ r. length (pieces r) ≤ limits.pieces) runs
  pub small : AllByRecursion (λ r. length (payload_of (pieces r)) ≤ limits.payload) runs

-- the greatest length of a message within the limits
abbrev pub greatest_length : LimitValues → ℕ
greatest_length limits = limits.records * (6 * limits.pieces + 511 + limits.payload)
