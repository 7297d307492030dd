-- The output for messages, and for records after others of their message.
use Rattle.std.specs.Prelude.{◌≡◌, ℕ, ◌+◌, ◌==◌, Bool, true, false, List, [], ◌∷◌, ◌++◌, Option, Some, None, codes, decimal, take}
use Rattle.ndef_diagnostics.specs.RecordRemarks.{BeginsWithFew}
use Rattle.ndef_fields.specs.declared.field.Field.{Field}
use Rattle.ndef_fields.specs.declared.report.FieldReport.{FieldReport}
use Rattle.ndef_message.specs.Views.{Viewed}
use Rattle.ndef_cli.specs.Quoting.{Text, quoted_bytes}
use Rattle.serde_json.specs.Data.{string}
use Rattle.ndef_cli_explain.specs.Fields.{field_texts, fields_array}
use Rattle.ndef_cli_explain.specs.Forms.{Form, lines, objects}
use Rattle.ndef_cli_explain.specs.Outputs.{Pair, json_line, number_value, object_of, with_pairs}
use Rattle.ndef_cli_explain.specs.Payloads.{ArePayloads, Joined, payload_texts, payloads_pair}
use Rattle.ndef_cli_explain.specs.RecordObjects.{AreRecordPairs}
use Rattle.ndef_cli_explain.specs.References.{AreReferencesIn}
use Rattle.ndef_cli_explain.specs.RemarkLists.{AreRemarksIn, record_remark_lines, record_remark_pairs}
use Rattle.ndef_cli_explain.specs.Wordings.{first_wording}
use Rattle.ndef_cli_explain.specs.declared.recovery_place.Recovery.{Recovery}
use Rattle.ndef_cli_explain.specs.declared.output.Output.{Output}
use Rattle.ndef_cli_explain.specs.declared.remark_lists.RecordRemark.{RecordRemark}
use Rattle.ndef_cli_explain.specs.declared.style.Shown.{Shown}

-- the name of the input, if inputs are named; a byte that isn't plain has the form in it that it has in a line
abbrev pub file_pairs : Option Text → List Pair
file_pairs None = []
file_pairs (Some name) = (codes "file", string (quoted_bytes name)) ∷ []

-- the place of bytes, their fields, and the name of the input, of a message or of a refusal
abbrev pub front_pairs : (remarks : Bool) → Option Text → (at : ℕ) (bytes : List ℕ) → List Field → List Pair
front_pairs remarks file at bytes fields =
    (codes "at", number_value at) ∷ (codes "fields", fields_array remarks at bytes fields) ∷ file_pairs file

-- the number, the length and the payloads in several chunks of a message
abbrev pub message_rest : (number taken : ℕ) → List Joined → List Pair
message_rest number taken payloads =
    (codes "length", number_value taken) ∷ (codes "message", number_value number) ∷ payloads_pair payloads ∷ []

-- ---- messages

-- the line of a message, with its number and its place
abbrev pub message_head : (number at bytes : ℕ) → Text
message_head number at bytes =
    codes "message " ++ decimal number ++ codes " at " ++ decimal at ++ codes ": bytes " ++ decimal bytes ++ codes "\n"

-- the lines of a message and of its fields, of its payloads in several chunks, and of the remarks on its records
abbrev pub AreMessageLines : Shown → (number at : ℕ) (input : List ℕ) → FieldReport → Text → Type 0
AreMessageLines shown number at input reported text =
    (payloads : List Joined) × (few : Option Viewed) × (remarks : List RecordRemark)
    × ArePayloads 1 reported.items payloads × BeginsWithFew (take reported.taken input) few × AreRemarksIn few remarks
    × (text ≡ message_head number at reported.taken ++ (field_texts (first_wording shown true) at input reported.fields
    ++ (payload_texts shown payloads ++ record_remark_lines remarks)))

-- NDEF 1.0, messages: the members for the records of the message that these bytes are, for the references of its
-- handover, and for the remarks on records
abbrev pub AreRecordMembers : (bytes : List ℕ) → List Pair → Type 0
AreRecordMembers bytes pairs =
    (few : Option Viewed) × (records : List Pair) × (references : List Pair) × (remarks : List RecordRemark)
    × BeginsWithFew bytes few × AreRecordPairs bytes records × AreReferencesIn few references
    × AreRemarksIn few remarks
    × (pairs ≡ records ++ (references ++ record_remark_pairs remarks))

-- these members are appended
abbrev pub AddsRecordMembers : (bytes : List ℕ) → (old new : Output) → Type 0
AddsRecordMembers bytes old new =
    (pairs : List Pair) × AreRecordMembers bytes pairs × (new ≡ with_pairs old pairs)

-- the object of a message in a line
abbrev pub IsMessageObject : Option Text → (number at : ℕ) (input : List ℕ) → FieldReport → Text → Type 0
IsMessageObject file number at input reported text =
    (payloads : List Joined) × (records : List Pair) × ArePayloads 1 reported.items payloads
    × AreRecordMembers (take reported.taken input) records
    × (text ≡ json_line (object_of (front_pairs true file at input reported.fields
    ++ (message_rest number reported.taken payloads ++ records))))

-- the output for a message: its lines, or its object
abbrev pub IsMessageText : Form → (number at : ℕ) (input : List ℕ) → FieldReport → Text → Type 0
IsMessageText (lines shown) number at input reported text = AreMessageLines shown number at input reported text
IsMessageText (objects file) number at input reported text = IsMessageObject file number at input reported text

-- ---- records after others of their message

-- the lines of their fields, and of their payloads in several chunks
abbrev pub AreRecordLines : Shown → Recovery → (bytes : List ℕ) → FieldReport → Text → Type 0
AreRecordLines shown from bytes reported text =
    (payloads : List Joined) × ArePayloads (from.records + 1) reported.items payloads
    × (text ≡ field_texts (first_wording shown true) from.at bytes reported.fields ++ payload_texts shown payloads)

-- the number of the record that they follow
abbrev pub follows_pair : Recovery → Pair
follows_pair from = (codes "follows", number_value from.records)

-- their object in a line
abbrev pub IsRecordsObject : Option Text → Recovery → (bytes : List ℕ) → FieldReport → Text → Type 0
IsRecordsObject file from bytes reported text =
    (payloads : List Joined) × ArePayloads (from.records + 1) reported.items payloads
    × (text ≡ json_line (object_of (front_pairs true file from.at bytes reported.fields
    ++ follows_pair from ∷ message_rest from.message reported.taken payloads)))

-- the output for them: their lines, or their object
abbrev pub AreRecordsText : Form → Recovery → (bytes : List ℕ) → FieldReport → Text → Type 0
AreRecordsText (lines shown) from bytes reported text = AreRecordLines shown from bytes reported text
AreRecordsText (objects file) from bytes reported text = IsRecordsObject file from bytes reported text

-- the same, or the output for a message where it begins here
abbrev pub IsRecoveryBy : (begins : Bool) → Form → Recovery → (bytes : List ℕ) → FieldReport → Text → Type 0
IsRecoveryBy true form from bytes reported text = IsMessageText form from.message from.at bytes reported text
IsRecoveryBy false form from bytes reported text = AreRecordsText form from bytes reported text

-- the output for a message, or for records after others of one
abbrev pub IsRecoveryText : Form → Recovery → (bytes : List ℕ) → FieldReport → Text → Type 0
IsRecoveryText form from bytes reported text = IsRecoveryBy (from.records == 0) form from bytes reported text
