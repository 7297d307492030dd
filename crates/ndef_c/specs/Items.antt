-- All records of a message, or of the message within a payload, given in one call.
use Rattle.std.specs.Prelude.{◌≡◌, ◌≢◌, ℕ, ◌+◌, ◌^◌, ◌<◌, ◌≤◌, Bool, true, false, List, [], ◌∷◌, length, drop, ◌⊎◌}
use Rattle.std.specs.List.{AllByRecursion}
use Rattle.ndef_format.specs.Kinds.{kind_of}
use Rattle.ndef_format.specs.Limits.{LimitValues}
use Rattle.ndef_format.specs.Messages.{Item, SpellsBy, run_record}
use Rattle.ndef_format.specs.Nested.{IsNest}
use Rattle.ndef_format.specs.NestedReasons.{NestReason}
use Rattle.ndef_format.specs.Accepted.{IsMember}
use Rattle.ndef_format.specs.Payloads.{Sets, IsTypedPayload}
use Rattle.ndef_format.specs.Reasons.{Conditions}
use Rattle.ndef_format.specs.Records.{Run}
use Rattle.ndef_format.specs.Texts.{IsText}
use Rattle.ndef_format.specs.Uris.{IsUri}
use Rattle.ndef_format.specs.declared.kind.Kind.TheVariants as kinds
use Rattle.ndef_format.specs.declared.profile.Profile.{Profile}
use Rattle.ndef_format.specs.declared.table.Table.{Table}
use Rattle.ndef_format.specs.declared.table.Table.TheVariants as tables
use Rattle.ndef_value.specs.declared.limits.TheConstants.{MOST_RECORDS}
use Rattle.ndef_c.specs.Arrays.{GivesMany}
use Rattle.ndef_c.specs.Checks.{MayBeSet, RefusesAt, TakesMessage}
use Rattle.ndef_c.specs.Kinds.{kind_number, kind_with, kind_within}
use Rattle.ndef_c.specs.Payloads.{IsTextAt, IsUriAt, RefusesWith}
use Rattle.ndef_c.specs.Walks.{AreWalked, IsRecordAt}
use Rattle.ndef_c.specs.declared.checking.NdefChecked.{NdefChecked}
use Rattle.ndef_c.specs.declared.items.Listing.{Listing}
use Rattle.ndef_c.specs.declared.items.NdefItem.{NdefItem}
use Rattle.ndef_c.specs.declared.items.Value.{Value}
use Rattle.ndef_c.specs.declared.limits.NdefLimits.{NdefLimits}
use Rattle.ndef_c.specs.declared.record.NdefRecord.{NdefRecord}
use Rattle.ndef_c.specs.declared.status.TheConstants.{REFUSED}
use Rattle.ndef_c.specs.declared.text.NdefText.{NdefText}
use Rattle.ndef_c.specs.declared.uri_parts.NdefUri.{NdefUri}

-- ---- values

-- no value is given
abbrev pub no_value : Value
no_value = record { form = 0; number = 0; language_at = 0; language_length = 0; text_at = 0; text_length = 0 }

-- RTD Text 1.0: the parts of the text in a payload that begins at the place
pub record IsTextValue (at : ℕ) (payload : List ℕ) (v : Value) : Type 0 where
  pub text : NdefText
  pub is : IsTextAt payload text
  pub form : v.form ≡ 1 + text.utf16
  pub number : v.number ≡ 0
  pub language_at : v.language_at ≡ at + text.language_at
  pub language_length : v.language_length ≡ text.language_length
  pub text_at : v.text_at ≡ at + text.text_at
  pub text_length : v.text_length ≡ text.text_length

-- RTD URI 1.0: the code and the rest of the URI in a payload that begins at the place
pub record IsUriValue (profile : Profile) (at : ℕ) (payload : List ℕ) (v : Value) : Type 0 where
  pub uri : NdefUri
  pub is : IsUriAt profile payload uri
  pub form : v.form ≡ 3
  pub number : v.number ≡ uri.code
  pub language_at : v.language_at ≡ 0
  pub language_length : v.language_length ≡ 0
  pub text_at : v.text_at ≡ at + uri.rest_at
  pub text_length : v.text_length ≡ uri.rest_length

-- the value of a payload of this kind that begins at the place: that of a text or a URI, else none
pub record IsValueOf (profile : Profile) (kind at : ℕ) (payload : List ℕ) (v : Value) : Type 0 where
  pub text : kind ≡ kind_number kinds.Text → IsTextValue at payload v
  pub uri : kind ≡ kind_number kinds.Uri → IsUriValue profile at payload v
  pub other : kind ≢ kind_number kinds.Text → kind ≢ kind_number kinds.Uri → v ≡ no_value

-- RTD Text 1.0 and RTD URI 1.0: the payload of a text or a URI is one
abbrev pub MayHaveValue : Profile → (kind : ℕ) → (payload : List ℕ) → Type 0
MayHaveValue profile kind payload =
    (kind ≡ kind_number kinds.Text → IsText payload)
    × (kind ≡ kind_number kinds.Uri → IsUri profile payload)

-- the words of a record that say how its value lies
abbrev pub value_of : NdefItem → Value
value_of i = record {
  form = i.form;
  number = i.number;
  language_at = i.language_at;
  language_length = i.language_length;
  text_at = i.text_at;
  text_length = i.text_length;
}

-- NDEF 1.0, chunked payloads: the value of a record in one piece whose payload is validated, else
-- none
pub record HasValue (looks : Bool) (profile : Profile) (kind at chunks : ℕ) (payload : List ℕ) (v : Value)
    : Type 0 where
  pub looked : looks ≡ true → chunks ≡ 1 → IsValueOf profile kind at payload v
  pub opaque : looks ≡ false → v ≡ no_value
  pub chunked : chunks ≢ 1 → v ≡ no_value

-- ---- records

-- the places, the lengths and the numbers of a record, in 32 bits each
pub record Repeats (r : NdefRecord) (i : NdefItem) : Type 0 where
  pub at : i.at ≡ r.at
  pub end : i.end ≡ r.end
  pub tnf : i.tnf ≡ r.tnf
  pub type_at : i.type_at ≡ r.type_at
  pub type_length : i.type_length ≡ r.type_length
  pub id_length : i.id_length ≡ r.id_length
  pub payload_at : i.payload_at ≡ r.payload_at
  pub payload_length : i.payload_length ≡ r.payload_length
  pub chunks : i.chunks ≡ r.chunks

-- NDEF 1.0, TYPE: the number of the kind of a record in a message of its own, or in that within a
-- payload of the kind with this number
abbrev pub item_kind : (within : ℕ) → Item → ℕ
item_kind within i = kind_number (kind_within within (kind_of i.tnf i.kind))

-- NDEF 1.0, record layout and chunked payloads: it is this record, which lies at the place, with
-- its kind and its value
pub record IsItemAt (looks : Bool) (within : ℕ) (profile : Profile) (bytes : List ℕ) (at : ℕ) (run : Run) (i : NdefItem)
    : Type 0 where
  pub place : NdefRecord
  pub there : IsRecordAt bytes at place
  pub run_is : there.run ≡ run
  pub repeats : Repeats place i
  pub kind : i.kind ≡ item_kind within (run_record run)
  pub value : HasValue looks profile i.kind i.payload_at i.chunks (run_record run).payload (value_of i)

-- NDEF 1.0, messages: they are these records, each as this says, which lie one after another from a
-- place to another
abbrev pub AreItems : (ℕ → Run → NdefItem → Type 0) → (at : ℕ) → List Run → List NdefItem → (end : ℕ) → Type 0
AreItems Is at [] [] end = at ≡ end
AreItems Is at [] (i ∷ items) end = ⊥
AreItems Is at (r ∷ runs) [] end = ⊥
AreItems Is at (r ∷ runs) (i ∷ items) end = Is at r i × AreItems Is i.end runs items end

-- the payload of a record is validated, if values are given
abbrev pub MayBeItem : (looks : Bool) → (within : ℕ) → Profile → Item → Type 0
MayBeItem looks within profile i = looks ≡ true → MayHaveValue profile (item_kind within i) i.payload

-- these records lie one after another from a place to another, and may be given
pub record AreListed (profile : Profile) (m : Listing) (at : ℕ) (runs : List Run) (end : ℕ) : Type 0 where
  pub walked : AreWalked m.bytes.now at runs end
  pub inside : end ≤ length m.bytes.now
  pub each : AllByRecursion (λ r. MayBeItem m.looks m.within profile (run_record r)) runs

-- ---- the call

-- the limits may be set, and each place fits in 32 bits
abbrev pub MayHaveItems : NdefLimits → List ℕ → Type 0
MayHaveItems numbers bytes = MayBeSet numbers × (length bytes < 2 ^ 32)

-- a payload of each type is one that the standards allow
abbrev pub AreTyped : Sets → Type 0
AreTyped set = (limits : LimitValues) (item : Item) → IsMember set limits item → IsMember IsTypedPayload limits item

-- NDEF 1.0, messages: the bytes begin with a message, and its records are given; where the array is
-- too small, their number alone
pub record GivesMessage (looks : Bool) (set : Sets) (holds : Conditions) (limits : LimitValues) (bytes : List ℕ)
    (before after : List NdefItem) (status : ℕ) (out : NdefChecked) : Type 0 where
  pub takes : TakesMessage set holds limits bytes out
  pub gives : GivesMany
      (λ reported. AreItems (IsItemAt looks 0 limits.profile bytes) 0 takes.viewed.runs reported out.place)
      (length takes.viewed.runs) before after out.records status

-- NDEF 1.0, messages: that, or the bytes are refused, there and for that reason
abbrev pub GivesItems : Bool → Sets → Conditions → LimitValues → List ℕ → (before after : List NdefItem)
    → (status : ℕ) → NdefChecked → Type 0
GivesItems looks set holds limits bytes before after status out =
    GivesMessage looks set holds limits bytes before after status out
    ⊎ ((status ≡ REFUSED) × RefusesAt set holds limits bytes out × (after ≡ before))

-- ---- the message within a payload

-- RTD Smart Poster 1.0 and Connection Handover 1.2: where the message begins: that of a handover
-- follows the version octet
abbrev pub message_at : Table → ℕ
message_at tables.SmartPoster = 0
message_at tables.Request = 1
message_at tables.Select = 1

-- NDEF 1.0, messages: the bytes are the message of these records, or there are neither
abbrev pub HoldsRuns : Profile → List Run → List ℕ → Type 0
HoldsRuns profile runs bytes =
    ((runs ≡ []) × (bytes ≡ [])) ⊎ ((items : List Item) × SpellsBy profile runs items bytes)

-- RTD Smart Poster 1.0 and Connection Handover 1.2: the payload holds a message, and its records are
-- given; where the array is too small, only their number
pub record GivesNested (table : Table) (profile : Profile) (payload : List ℕ) (before after : List NdefItem)
    (status : ℕ) (out : NdefChecked) : Type 0 where
  pub in_set : IsNest table MOST_RECORDS profile payload
  pub short : length payload < 2 ^ 32
  pub place : out.place ≡ length payload
  pub reason : out.reason ≡ 0
  pub runs : List Run
  pub message : HoldsRuns profile runs (drop (message_at table) payload)
  pub gives : GivesMany
      (λ reported. AreItems (IsItemAt true (kind_number (kind_with table)) profile payload) (message_at table) runs
      reported (length payload))
      (length runs) before after out.records status

-- RTD Smart Poster 1.0 and Connection Handover 1.2: that, or the payload is refused, there and for
-- that reason
abbrev pub GivesWithin : Table → Profile → List ℕ → (before after : List NdefItem) → (status : ℕ) → NdefChecked
    → Type 0
GivesWithin table profile payload before after status out =
    GivesNested table profile payload before after status out
    ⊎ ((status ≡ REFUSED)
    × RefusesWith (IsNest table MOST_RECORDS profile) (NestReason table MOST_RECORDS profile) payload out
    × (after ≡ before))
