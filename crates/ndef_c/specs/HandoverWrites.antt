-- The handovers that may be written.
use Rattle.std.specs.Prelude.{◌≡◌, ℕ, ◌+◌, ◌*◌, ◌<◌, ◌^◌, List, ◌∷◌, length}
use Rattle.ndef_format.specs.declared.profile.Profile.TheVariants.{Strict}
use Rattle.ndef_value.specs.declared.limits.TheConstants.{MOST_RECORDS}
use Rattle.ndef_format.specs.Nested.{IsNest}
use Rattle.ndef_format.specs.declared.table.Table.{Table}
use Rattle.ndef_format.specs.declared.table.Table.TheVariants.{Request, Select}
use Rattle.ndef_c.specs.declared.handover_writing.TheConstants.{REQUEST, SELECT}

-- Connection Handover 1.2, version octet: the major version in the high four bits, the minor one in
-- the low four
abbrev pub version_of : (major minor : ℕ) → ℕ
version_of major minor = 16 * major + minor

-- a number that selects a request or a select
abbrev pub AsksForHandover : ℕ → Table → Type 0
AsksForHandover number Request = number ≡ REQUEST
AsksForHandover number Select = number ≡ SELECT
AsksForHandover number _ = ⊥

-- Connection Handover 1.2, Handover Request and Select records: a version octet and a message that
-- a strict reader takes, which fit in a payload
pub record MayBeHandover (number major minor : ℕ) (message : List ℕ) : Type 0 where
  pub table : Table
  pub asked : AsksForHandover number table
  pub four_bits : minor < 16
  pub fits : 1 + length message < 2 ^ 32
  pub handover : IsNest table MOST_RECORDS Strict (version_of major minor ∷ message)
