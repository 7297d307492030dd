-- Messages within payloads, made record by record (NFC Forum, RTD Smart Poster 1.0 and Connection
-- Handover 1.2).
use Rattle.std.specs.Prelude.{◌≡◌, ◌⊎◌, ◌^◌, ◌<◌, ◌≤◌, ◌∷◌, ℕ, List, [], length, IsAscii, Option, Some, None, Result, Ok, Err}
use Rattle.std.specs.Int.{w16, w32, to_be_bytes}
use Rattle.ndef_format.specs.Kinds.{kind_name}
use Rattle.ndef_format.specs.Messages.{Item}
use Rattle.ndef_format.specs.Nested.{HasContents}
use Rattle.ndef_format.specs.declared.kind.Kind.{Kind}
use Rattle.ndef_format.specs.declared.kind.Kind.TheVariants as kinds
use Rattle.ndef_format.specs.declared.profile.Profile.TheVariants.{Strict}
use Rattle.ndef_format.specs.declared.table.Table.TheVariants as tables
use Rattle.ndef_format.specs.declared.tnf.Tnf.TheVariants.{WellKnown}
use Rattle.ndef_value.specs.declared.name.NameError.{NameError}
use Rattle.ndef_value.specs.declared.name.NameError.TheVariants as names
use Rattle.ndef_types.specs.Contents.{IsFirstWrong}
use Rattle.ndef_types.specs.Decoding.{IsTooLong}
use Rattle.ndef_types.specs.Handovers.{RequestValue, SelectValue}
use Rattle.ndef_types.specs.Posters.{LacksUri}
use Rattle.ndef_types.specs.Values.{AcValue, TextValue, WritesUri, ac_payload, text_payload}
use Rattle.ndef_types.specs.declared.action.Action.{Action}
use Rattle.ndef_types.specs.declared.action.Action.TheVariants as actions
use Rattle.ndef_types.specs.declared.error.EncodeError.{EncodeError}
use Rattle.ndef_types.specs.declared.error.EncodeError.TheVariants as encodes
use Rattle.ndef_types.specs.declared.power.Power.{Power}
use Rattle.ndef_types.specs.declared.text.TextError.{TextError}
use Rattle.ndef_types.specs.declared.text.TextError.TheVariants as texts
use Rattle.ndef_types.specs.declared.build_error.BuildError.{BuildError}
use Rattle.ndef_types.specs.declared.build_error.BuildError.TheVariants as errors

-- ---- records

-- NDEF 1.0, record layout: a record of the well-known type of a kind, without an id
abbrev pub kind_item : Kind → (payload : List ℕ) → Item
kind_item kind payload =
    record { tnf = WellKnown; kind = kind_name kind; id = []; payload = payload }

-- Connection Handover 1.2, Alternative Carrier record: a carrier without auxiliary references
abbrev pub carrier_value : Power → (reference : List ℕ) → AcValue
carrier_value power reference =
    record { power = power; reference = reference; auxiliary = []; rest = [] }

-- Connection Handover 1.2, Alternative Carrier record: the record of a carrier without auxiliary
-- references
abbrev pub carrier_item : Power → (reference : List ℕ) → Item
carrier_item power reference =
    kind_item kinds.Alternative (ac_payload (carrier_value power reference))

-- Connection Handover 1.2, Collision Resolution record: two octets, most significant first
abbrev pub collision_item : ℕ → Item
collision_item number = kind_item kinds.Collision (to_be_bytes w16 number)

-- RTD Smart Poster 1.0, size record: four octets, most significant first
abbrev pub size_item : ℕ → Item
size_item size = kind_item kinds.Size (to_be_bytes w32 size)

-- RTD Smart Poster 1.0, recommended action record: the octet of an action
abbrev pub action_octet : Action → ℕ
action_octet actions.Do = 0
action_octet actions.Save = 1
action_octet actions.Open = 2
action_octet (actions.Other octet) = octet

-- RTD Smart Poster 1.0, recommended action record
abbrev pub action_item : Action → Item
action_item action = kind_item kinds.Action (action_octet action ∷ [])

-- NDEF 1.0, PAYLOAD_LENGTH: why a record with a payload of this length isn't added
abbrev pub FailsToAdd : (length : ℕ) → BuildError → Type 0
FailsToAdd length errors.TooLong = 2 ^ 32 ≤ length
FailsToAdd length errors.NoMemory = length < 2 ^ 32
FailsToAdd length _ = ⊥

-- Connection Handover 1.2, Alternative Carrier record: why a carrier with this reference isn't added
abbrev pub FailsToCarry : (reference : List ℕ) → BuildError → Type 0
FailsToCarry reference errors.TooLong = 255 < length reference
FailsToCarry reference errors.NoMemory = length reference ≤ 255
FailsToCarry reference _ = ⊥

-- RTD URI 1.0: why a URI isn't added
abbrev pub FailsToLead : (uri : List ℕ) → BuildError → Type 0
FailsToLead uri errors.TooLong = IsTooLong WritesUri uri
FailsToLead uri errors.NoMemory = IsTooLong WritesUri uri → ⊥
FailsToLead uri _ = ⊥

-- RTD Text 1.0: the language code is too long, or it is ASCII and the payload is too long
abbrev pub IsLongText : TextValue → Type 0
IsLongText v =
    (63 < length v.language) ⊎ (IsAscii v.language × (2 ^ 32 ≤ length (text_payload v)))

-- RTD Text 1.0: why a title isn't added
abbrev pub FailsToSay : TextValue → BuildError → Type 0
FailsToSay v errors.TooLong = IsLongText v
FailsToSay v errors.NotAscii = (length v.language ≤ 63) × (IsAscii v.language → ⊥)
FailsToSay v errors.NoMemory =
    (length v.language ≤ 63) × IsAscii v.language × (length (text_payload v) < 2 ^ 32)
FailsToSay v _ = ⊥

-- ---- values

-- NDEF 1.0, messages: no message has this number of records
abbrev pub IsNoCount : ℕ → Type 0
IsNoCount count = (count ≡ 0) ⊎ (65535 < count)

-- NDEF 1.0, messages: the records of a message, or none
abbrev pub message_or_none : List Item → Option (List Item)
message_or_none [] = None
message_or_none (i ∷ items) = Some (i ∷ items)

-- Connection Handover 1.2, Handover Select record: a select of the records, in version 1.2, or
-- the error of the records
abbrev pub BuildsSelect : List Item → Result SelectValue BuildError → Type 0
BuildsSelect items (Ok select) = select ≡ record { minor = 2; message = message_or_none items }
BuildsSelect items (Err errors.RecordCount) = 65535 < length items
BuildsSelect items (Err (errors.Wrong index)) =
    (length items ≤ 65535) × IsFirstWrong tables.Select items index
BuildsSelect items (Err _) = ⊥

-- Connection Handover 1.2, Handover Request record: a request of the records, in version 1.2, or
-- the error of the records
abbrev pub BuildsRequest : List Item → Result RequestValue BuildError → Type 0
BuildsRequest items (Ok request) = (request ≡ record { minor = 2; items = items })
    × HasContents tables.Request Strict items
BuildsRequest items (Err errors.RecordCount) = IsNoCount (length items)
BuildsRequest items (Err (errors.Wrong index)) =
    (IsNoCount (length items) → ⊥) × IsFirstWrong tables.Request items index
BuildsRequest items (Err _) = ⊥

-- RTD Smart Poster 1.0: a poster of the records, or the error of the records
abbrev pub BuildsPoster : List Item → Result (List Item) BuildError → Type 0
BuildsPoster items (Ok poster) = (poster ≡ items) × HasContents tables.SmartPoster Strict items
BuildsPoster items (Err errors.RecordCount) = IsNoCount (length items)
BuildsPoster items (Err (errors.Wrong index)) = (IsNoCount (length items) → ⊥)
    × (IsFirstWrong tables.SmartPoster items index ⊎ LacksUri items index)
BuildsPoster items (Err _) = ⊥

-- ---- faults

-- the error of a name
abbrev pub name_fault : NameError → BuildError
name_fault names.TooLong = errors.TooLong
name_fault names.NoMemory = errors.NoMemory

-- the error of a payload
abbrev pub encode_fault : EncodeError → BuildError
encode_fault encodes.TooLong = errors.TooLong
encode_fault encodes.NoMemory = errors.NoMemory

-- the error of a text
abbrev pub text_fault : TextError → BuildError
text_fault texts.TooLong = errors.TooLong
text_fault texts.NotAscii = errors.NotAscii
text_fault texts.NoMemory = errors.NoMemory
