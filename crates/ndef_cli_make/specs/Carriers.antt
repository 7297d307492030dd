-- The record of a handover carrier (NFC Forum, Connection Handover 1.2).
use Rattle.std.specs.Prelude.{◌≡◌, ◌<◌, ◌≤◌, ◌^◌, ◌⊎◌, ℕ, List, [], length, Option, Some, None, Result, Ok, Err, codes, if◌then◌else◌, option_and_then, option_map}
use Rattle.std.specs.Str.{bytes_eq}
use Rattle.clap.specs.Words.{Row, Text, first_of}
use Rattle.ndef_format.specs.Messages.{Item}
use Rattle.ndef_format.specs.declared.tnf.Tnf.TheVariants.{WellKnown}
use Rattle.ndef_types.specs.Values.{CarrierValue, carrier_payload}
use Rattle.ndef_cli_make.specs.Options.{word_or}
use Rattle.ndef_cli_make.specs.Records.{Answer, MakesItem}
use Rattle.ndef_cli_make.specs.declared.fault.Fault.{Fault}
use Rattle.ndef_cli_make.specs.declared.fault.Fault.TheVariants.{Refused, Memory}
use Rattle.ndef_cli_make.specs.declared.fault.Refused.TheVariants.{PartTooLong, PayloadTooLong}

-- Connection Handover 1.2, Handover Carrier record, carrier type format: the format of this number,
-- of three bits
abbrev pub format_named : Text → Option ℕ
format_named name = if bytes_eq name (codes "0") then Some 0
    else (if bytes_eq name (codes "1") then Some 1
    else (if bytes_eq name (codes "2") then Some 2
    else (if bytes_eq name (codes "3") then Some 3
    else (if bytes_eq name (codes "4") then Some 4
    else (if bytes_eq name (codes "5") then Some 5
    else (if bytes_eq name (codes "6") then Some 6
    else (if bytes_eq name (codes "7") then Some 7 else None)))))))

-- Connection Handover 1.2, Handover Carrier record: the carrier of a part, whose data is its payload
abbrev pub carrier_said : List Row → (payload : List ℕ) → Option CarrierValue
carrier_said rows payload = option_map (λ format. record {
  format = format;
  kind = word_or (codes "type") [] rows;
  carried = payload;
}) (option_and_then format_named (first_of (codes "format") rows))

-- Connection Handover 1.2, Handover Carrier record: the payload of a carrier; none where a part is
-- too long
abbrev pub WritesData : CarrierValue → Result (List ℕ) Fault → Type 0
WritesData v (Ok payload) =
    (length v.kind < 256) × (length payload < 2 ^ 32) × (payload ≡ carrier_payload v)
WritesData v (Err (Refused PartTooLong)) = 256 ≤ length v.kind
WritesData v (Err (Refused PayloadTooLong)) =
    (length v.kind < 256) × (2 ^ 32 ≤ length (carrier_payload v))
WritesData v (Err Memory) = length v.kind < 256
WritesData v (Err _) = ⊥

-- Connection Handover 1.2, Handover Carrier record: the record with this id and this payload
abbrev pub carrier_item : Text → List ℕ → Item
carrier_item id payload = record { tnf = WellKnown; kind = codes "Hc"; id = id; payload = payload }

-- Connection Handover 1.2, Handover Carrier record: the record of a carrier, with this id
abbrev pub MakesCarrier : Text → CarrierValue → Answer → Type 0
MakesCarrier id v (Ok i) =
    (payload : List ℕ) × WritesData v (Ok payload) × MakesItem (carrier_item id payload) (Ok i)
MakesCarrier id v (Err fault) =
    WritesData v (Err fault)
    ⊎ ((payload : List ℕ) × WritesData v (Ok payload)
    × MakesItem (carrier_item id payload) (Err fault))
