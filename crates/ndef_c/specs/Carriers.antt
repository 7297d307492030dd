-- The result for the payload of a handover carrier, and the carriers that may be written.
use Rattle.std.specs.Prelude.{◌≡◌, ℕ, ◌^◌, ◌+◌, ◌<◌, List, length}
use Rattle.ndef_format.specs.Handovers.{IsCarrier}
use Rattle.ndef_types.specs.Values.{CarrierValue, StandsForCarrier}
use Rattle.ndef_c.specs.Walks.{Lies}
use Rattle.ndef_c.specs.declared.carrier.NdefCarrier.{NdefCarrier}

-- Connection Handover 1.2, Handover Carrier record: the payload is that of a carrier, and where its
-- parts lie
pub record IsCarrierAt (payload : List ℕ) (out : NdefCarrier) : Type 0 where
  pub in_set : IsCarrier payload
  pub short : length payload < 2 ^ 32
  pub carrier : CarrierValue
  pub stands : StandsForCarrier payload carrier
  pub format : out.format ≡ carrier.format
  pub kind : Lies payload out.type_at out.type_length carrier.kind
  pub carried : Lies payload out.data_at out.data_length carrier.carried
  pub kind_place : out.type_at ≡ 2
  pub carried_place : out.data_at ≡ out.type_at + out.type_length

-- Connection Handover 1.2, Handover Carrier record: a format of three bits and a type of up to 255
-- octets that fit in a payload
pub record MayBeCarrier (format : ℕ) (kind carried : List ℕ) : Type 0 where
  pub three_bits : format < 8
  pub short : length kind < 256
  pub fits : 2 + (length kind + length carried) < 2 ^ 32

-- Connection Handover 1.2, Handover Carrier record: the carrier of these parts
abbrev pub carrier_of : (format : ℕ) (kind carried : List ℕ) → CarrierValue
carrier_of format kind carried = record { format = format; kind = kind; carried = carried }
