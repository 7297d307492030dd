-- The alternative carriers that may be written, and their octets.
use Rattle.std.specs.Prelude.{◌≡◌, ℕ, ◌+◌, ◌<◌, ◌≤◌, List, [], length, map, take, drop}
use Rattle.std.specs.List.{All}
use Rattle.ndef_format.specs.Handovers.{IsAlternative}
use Rattle.ndef_types.specs.Values.{AcValue, IsAcValue, StandsForAc, WritesAc, counted, power_code}
use Rattle.ndef_c.specs.Alternatives.{references}
use Rattle.ndef_c.specs.Payloads.{GivesFor}
use Rattle.ndef_c.specs.declared.part.NdefPart.{NdefPart}

-- the part of the bytes
abbrev pub part_of : List ℕ → NdefPart → List ℕ
part_of bytes part = take part.length (drop part.at bytes)

-- the part lies within `size` bytes
abbrev pub IsPartWithin : (size : ℕ) → NdefPart → Type 0
IsPartWithin size part = part.at + part.length ≤ size

-- Connection Handover 1.2, Carrier Data Reference: up to 255 octets, all of them there
abbrev pub MayBeReference : (size : ℕ) → NdefPart → Type 0
MayBeReference size part = IsPartWithin size part × (part.length < 256)

-- Connection Handover 1.2, Alternative Carrier record: a power state of two bits, a carrier data
-- reference and up to 255 auxiliary ones
pub record MayBeAlternative (power : ℕ) (bytes : List ℕ) (parts : List NdefPart) : Type 0 where
  pub two_bits : power < 4
  pub some : 1 ≤ length parts
  pub few : length parts ≤ 256
  pub references : All (MayBeReference (length bytes)) parts

-- Connection Handover 1.2, Alternative Carrier record: it has this power state and these
-- references, and nothing after them
pub record IsAlternativeOf (power : ℕ) (bytes : List ℕ) (parts : List NdefPart) (v : AcValue) : Type 0 where
  pub value : IsAcValue v
  pub power_is : power_code v.power ≡ power
  pub references_are : references v ≡ map (part_of bytes) parts
  pub rest : v.rest ≡ []

-- Connection Handover 1.2, Alternative Carrier record: the octets that are written for the alternative carrier,
-- which is read as it
pub record WritesAlternative (v : AcValue) (payload : List ℕ) : Type 0 where
  pub is : WritesAc v payload
  pub in_set : IsAlternative payload
  pub stands : StandsForAc payload v

-- the octets that are written for that alternative carrier are given
pub record GivesAlternative (power : ℕ) (bytes : List ℕ) (parts : List NdefPart) (before after : List ℕ)
    (count status : ℕ) : Type 0 where
  pub alternative : AcValue
  pub is : IsAlternativeOf power bytes parts alternative
  pub gives : GivesFor WritesAlternative alternative before after count status

-- Connection Handover 1.2, Alternative Carrier record: a reference after its length
abbrev pub counted_part : List ℕ → NdefPart → List ℕ
counted_part bytes part = counted (part_of bytes part)
