-- New alternative carriers.
use Rattle.std.specs.Prelude.{◌≡◌, ◌<◌, ◌≤◌, length, Result, Ok, Err}
use Rattle.ndef_types.specs.Values.{AcValue}
use Rattle.ndef_types.specs.declared.alternative.TooMany.{TooMany}

-- the parts are those of the value
pub record HandsBack (v : AcValue) (parts : TooMany) : Type 0 where
  pub power : parts.power ≡ v.power
  pub reference : parts.reference ≡ v.reference
  pub auxiliary : parts.auxiliary.items ≡ v.auxiliary
  pub rest : parts.rest ≡ v.rest

-- Connection Handover 1.2, Auxiliary Data Reference Count: one octet, so an alternative carrier of
-- the parts, or they back
abbrev pub MakesAc : AcValue → Result AcValue TooMany → Type 0
MakesAc v (Ok ac) = (length v.auxiliary ≤ 255) × (ac ≡ v)
MakesAc v (Err parts) = (255 < length v.auxiliary) × HandsBack v parts
