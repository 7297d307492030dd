-- The lines and the objects of payloads in several chunks, joined.
use Rattle.std.specs.Prelude.{◌≡◌, ℕ, true, List, [], ◌∷◌, ◌++◌, codes, decimal, length, map}
use Rattle.std.specs.List.{flat_map}
use Rattle.ndef_format.specs.Kinds.{kind_of}
use Rattle.ndef_format.specs.Messages.{Item, run_record}
use Rattle.ndef_format.specs.Records.{Piece, Run}
use Rattle.ndef_fields.specs.Reports.{ArePayloadFields}
use Rattle.ndef_fields.specs.declared.field.Field.{Field}
use Rattle.ndef_cli.specs.Quoting.{Text}
use Rattle.serde_json.specs.Data.{Data}
use Rattle.ndef_cli_explain.specs.Fields.{field_texts, fields_array}
use Rattle.ndef_cli_explain.specs.Forms.{Form, shown_by}
use Rattle.ndef_cli_explain.specs.OfEach.{AreOfEach}
use Rattle.ndef_cli_explain.specs.Outputs.{Pair, array_of, number_value, object_of, with_either, with_pair}
use Rattle.ndef_cli_explain.specs.Wordings.{first_wording}
use Rattle.ndef_cli_explain.specs.declared.fields.Parsed.{Parsed}
use Rattle.ndef_cli_explain.specs.declared.output.Output.{Output}
use Rattle.ndef_cli_explain.specs.declared.style.Shown.{Shown}

-- the payload of the record of this number: its octets and its fields
pub record Joined : Type 0 where
  pub number : ℕ
  pub octets : List ℕ
  pub fields : List Field

-- these values of the program
abbrev pub joined : (number : ℕ) → Parsed → Joined
joined number payload = record { number = number; octets = payload.bytes.now; fields = payload.fields }

-- NDEF 1.0, chunked payloads: a payload with its fields
abbrev pub IsJoined : (number : ℕ) → Item → Joined → Type 0
IsJoined number item joined =
    (joined.number ≡ number) × (joined.octets ≡ item.payload)
    × ArePayloadFields (kind_of item.tnf item.kind) item.payload joined.fields

-- NDEF 1.0, chunked payloads: a payload that has these chunks after its first; none where there are none
abbrev pub AreJoinedBy : (number : ℕ) → Item → (later : List Piece) → List Joined → Type 0
AreJoinedBy number item [] joined = joined ≡ []
AreJoinedBy number item (p ∷ later) joined = (one : Joined) × IsJoined number item one × (joined ≡ one ∷ [])

-- NDEF 1.0, chunked payloads: those of records, of which the first has this number
abbrev pub ArePayloads : (number : ℕ) → List Run → List Joined → Type 0
ArePayloads = AreOfEach (λ number run. AreJoinedBy number (run_record run) run.later)

-- the line of a joined payload: the number of its record, and its number of bytes
abbrev pub payload_head : (number bytes : ℕ) → Text
payload_head number bytes =
    codes "payload of record " ++ decimal number ++ codes ": bytes " ++ decimal bytes ++ codes "\n"

-- this line, and those of the fields of the payload
abbrev pub payload_text : Shown → Joined → Text
payload_text shown joined =
    payload_head joined.number (length joined.octets)
    ++ field_texts (first_wording shown true) 0 joined.octets joined.fields

-- the lines of payloads
abbrev pub payload_texts : Shown → List Joined → Text
payload_texts shown payloads = flat_map (payload_text shown) payloads

-- the object of a joined payload: its fields, its number of bytes, and the number of its record
abbrev pub payload_object : Joined → Data
payload_object joined =
    object_of ((codes "fields", fields_array true 0 joined.octets joined.fields)
    ∷ (codes "length", number_value (length joined.octets)) ∷ (codes "record", number_value joined.number) ∷ [])

-- the objects of payloads
abbrev pub payload_objects : List Joined → List Data
payload_objects payloads = map payload_object payloads

-- the lines of these payloads, or their objects
abbrev pub with_payloads : Form → Output → List Joined → Output
with_payloads form out payloads =
    with_either form out (payload_texts (shown_by form) payloads) (payload_objects payloads)

-- the lines of a payload of this item, or its object, are appended
abbrev pub AddsJoined : Form → (number : ℕ) → Item → (old new : Output) → Type 0
AddsJoined form number item old new =
    (one : Joined) × IsJoined number item one × (new ≡ with_payloads form old (one ∷ []))

-- the member with the array of the objects of payloads
abbrev pub payloads_pair : List Joined → Pair
payloads_pair payloads = (codes "payloads", array_of (payload_objects payloads))

-- this member is appended
abbrev pub with_payloads_member : Output → List Joined → Output
with_payloads_member out payloads = with_pair out (payloads_pair payloads)
