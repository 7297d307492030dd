-- The records of a message and the values of their payloads, in JSON.
use Rattle.std.specs.Prelude.{◌≡◌, ℕ, ◌⊎◌, List, [], ◌∷◌, Option, Some, None, codes, length, map, encode_utf8_all}
use Rattle.ndef_format.specs.Kinds.{kind_of}
use Rattle.ndef_format.specs.Limits.{LimitValues}
use Rattle.ndef_format.specs.Messages.{Item, run_record}
use Rattle.ndef_format.specs.Nested.{IsNest}
use Rattle.ndef_format.specs.NestedReasons.{NestReason}
use Rattle.ndef_format.specs.PayloadReasons.{TextReason, UriReason}
use Rattle.ndef_format.specs.Reasons.{NoReason}
use Rattle.ndef_format.specs.Records.{AreOctets, Run, code}
use Rattle.ndef_format.specs.Refusals.{Refuses}
use Rattle.ndef_format.specs.Texts.{IsText}
use Rattle.ndef_format.specs.Uris.{IsUri}
use Rattle.ndef_format.specs.declared.kind.Kind.{Kind}
use Rattle.ndef_format.specs.declared.kind.Kind.TheVariants as kinds
use Rattle.ndef_format.specs.declared.profile.Profile.TheVariants.{Standard}
use Rattle.ndef_format.specs.declared.refusal.Refusal.{Refusal}
use Rattle.ndef_format.specs.declared.table.Table.TheVariants as tables
use Rattle.ndef_message.specs.Views.{IsViewOf, Viewed}
use Rattle.ndef_cli.specs.Quoting.{quoted_bytes}
use Rattle.ndef_types.specs.Decoding.{Meaning, Payloads, Reasons, RefusesPayload}
use Rattle.ndef_types.specs.Posters.{IsUriOf, StandForTexts, StandsForPoster, titles}
use Rattle.ndef_types.specs.Values.{StandsForText, StandsForUri, TextValue}
use Rattle.serde_json.specs.Data.{Data, string}
use Rattle.ndef_cli_explain.specs.OfEach.{AreOfEach}
use Rattle.ndef_cli_explain.specs.Outputs.{Pair, array_of, number_value, object_of, with_pairs, with_value}
use Rattle.ndef_cli_explain.specs.declared.output.Output.{Output}

-- ---- values

-- RTD Text 1.0: a text with its language
abbrev pub text_object : TextValue → Data
text_object v =
    object_of ((codes "language", string v.language) ∷ (codes "text", string (encode_utf8_all v.text)) ∷ [])

-- RTD Smart Poster 1.0: a poster by its titles and its URI
abbrev pub poster_object : List TextValue → (uri : List ℕ) → Data
poster_object texts uri =
    object_of ((codes "titles", array_of (map text_object texts)) ∷ (codes "uri", string uri) ∷ [])

-- RTD Smart Poster 1.0: the object of the poster of these records
abbrev pub IsPosterObject : List Item → Data → Type 0
IsPosterObject poster made =
    (texts : List TextValue) × (uri : List ℕ) × StandForTexts (titles poster) texts × IsUriOf poster uri
    × (made ≡ poster_object texts uri)

-- this object is appended
abbrev pub AddsPosterObject : List Item → (old new : Output) → Type 0
AddsPosterObject poster old new = (made : Data) × IsPosterObject poster made × (new ≡ with_value old made)

-- the value of a payload, in JSON; nothing if it isn't in the set
abbrev pub IsValueBy : {V : Type 0} → Payloads → Reasons → Meaning V → (V → Data → Type 0) → List ℕ
    → Option Data → Type 0
IsValueBy {V} set holds stands IsObject payload (Some made) =
    (value : V) × set payload × stands payload value × IsObject value made
IsValueBy set holds stands IsObject payload None = (refusal : Refusal) × RefusesPayload set holds payload refusal

-- RTD Text 1.0, RTD URI 1.0 and RTD Smart Poster 1.0: the value of a payload of a kind, for a reader of the standard
-- profile
abbrev pub IsRecordValue : Kind → List ℕ → Option Data → Type 0
IsRecordValue kinds.Text payload value =
    IsValueBy IsText TextReason StandsForText (λ v made. made ≡ text_object v) payload value
IsRecordValue kinds.Uri payload value =
    IsValueBy (IsUri Standard) (UriReason Standard) StandsForUri (λ uri made. made ≡ string uri) payload value
IsRecordValue kinds.SmartPoster payload value =
    IsValueBy (IsNest tables.SmartPoster 65535 Standard) (NestReason tables.SmartPoster 65535 Standard)
    (StandsForPoster Standard) IsPosterObject payload value
IsRecordValue kind payload value = value ≡ None

-- the member of a value, if there is one
abbrev pub value_pairs : Option Data → List Pair
value_pairs None = []
value_pairs (Some value) = (codes "value", value) ∷ []

-- this value is put after what came before, if there is one
abbrev pub PutsValue : Kind → (payload : List ℕ) → (old new : Output) → Type 0
PutsValue kind payload old new =
    (value : Option Data) × IsRecordValue kind payload value × (new ≡ with_pairs old (value_pairs value))

-- ---- records

-- NDEF 1.0, TNF and TYPE: the kind of a record
abbrev pub run_kind : Run → Kind
run_kind run = kind_of (run_record run).tnf (run_record run).kind

-- NDEF 1.0, record layout: a record of this number
abbrev pub record_pairs : (number : ℕ) → Item → Option Data → List Pair
record_pairs number i value =
    (codes "id", string (quoted_bytes i.id)) ∷ (codes "length", number_value (length i.payload))
    ∷ (codes "number", number_value number) ∷ (codes "tnf", number_value (code i.tnf))
    ∷ (codes "type", string (quoted_bytes i.kind)) ∷ value_pairs value

-- its object
abbrev pub record_object : (number : ℕ) → Item → Option Data → Data
record_object number i value = object_of (record_pairs number i value)

-- NDEF 1.0, record layout: the object of a record of this number
abbrev pub IsRecordObject : (number : ℕ) → Run → List Data → Type 0
IsRecordObject number run made =
    (value : Option Data) × IsRecordValue (run_kind run) (run_record run).payload value
    × (made ≡ record_object number (run_record run) value ∷ [])

-- NDEF 1.0, messages: the objects of records, of which the first has this number
abbrev pub AreRecordObjects : (number : ℕ) → List Run → List Data → Type 0
AreRecordObjects = AreOfEach IsRecordObject

-- limits that each message meets
abbrev pub widest : LimitValues
widest = record { payload = 4294967295; records = 65535; pieces = 65535; profile = Standard }

-- NDEF 1.0, messages: the member with the objects of the records of the message with which the bytes begin
abbrev pub AreRecordPairs : (bytes : List ℕ) → List Pair → Type 0
AreRecordPairs bytes pairs =
    ((message : Viewed) × (objects : List Data)
    × IsViewOf (λ tnf name records profile. AreOctets) widest bytes message × AreRecordObjects 1 message.runs objects
    × (pairs ≡ (codes "records", array_of objects) ∷ []))
    ⊎ ((refusal : Refusal)
    × Refuses (λ tnf name records profile. AreOctets) (λ tnf name records profile s b. NoReason) widest bytes refusal
    × (pairs ≡ []))

-- this member is appended
abbrev pub AddsRecordPairs : (bytes : List ℕ) → (old new : Output) → Type 0
AddsRecordPairs bytes old new = (pairs : List Pair) × AreRecordPairs bytes pairs × (new ≡ with_pairs old pairs)
