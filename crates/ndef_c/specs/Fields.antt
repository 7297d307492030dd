-- The field of each byte of a message, as numbers.
use Rattle.std.specs.Prelude.{◌≡◌, ℕ, ◌+◌, ◌<◌, ◌≤◌, List, ◌∷◌, ◌++◌, length, map, take}
use Rattle.ndef_format.specs.Kinds.{kind_of}
use Rattle.ndef_format.specs.Limits.{LimitValues}
use Rattle.ndef_format.specs.NestedReasons.{TypedReason}
use Rattle.ndef_format.specs.Payloads.{IsTypedPayload}
use Rattle.ndef_format.specs.Records.{tnf_of}
use Rattle.ndef_fields.specs.FieldLaws.{AreGapless}
use Rattle.ndef_fields.specs.Names.{name_text}
use Rattle.ndef_fields.specs.Reports.{AreFields, AreFieldsBefore, ArePayloadFields}
use Rattle.ndef_fields.specs.declared.field.Field.{Field}
use Rattle.ndef_fields.specs.declared.name.FieldName.{FieldName}
use Rattle.ndef_fields.specs.declared.name.FieldName.TheVariants as names
use Rattle.ndef_c.specs.Arrays.{set_over}
use Rattle.ndef_c.specs.Checks.{ChecksPayloads, ChecksTo, MayBeSet}
use Rattle.ndef_c.specs.Buffers.{Gives}
use Rattle.ndef_c.specs.declared.checking.NdefChecked.{NdefChecked}
use Rattle.ndef_c.specs.declared.fields.NdefField.{NdefField}
use Rattle.ndef_c.specs.declared.limits.NdefLimits.{NdefLimits}
use Rattle.ndef_c.specs.declared.status.TheConstants.{OK, REFUSED, BUFFER_TOO_SMALL, END}

-- ---- names

-- the number of a name
abbrev pub field_number : FieldName → ℕ
field_number names.Header = 1
field_number names.KindLength = 2
field_number names.PayloadLength = 3
field_number names.IdLength = 4
field_number names.Kind = 5
field_number names.Id = 6
field_number names.Payload = 7
field_number names.Status = 8
field_number names.Language = 9
field_number names.Mark = 10
field_number names.Text = 11
field_number names.UriCode = 12
field_number names.UriRest = 13
field_number names.Action = 14
field_number names.Size = 15
field_number names.MediaType = 16
field_number names.Version = 17
field_number names.Collision = 18
field_number names.Power = 19
field_number names.ReferenceLength = 20
field_number names.Reference = 21
field_number names.AuxiliaryCount = 22
field_number names.AuxiliaryLength = 23
field_number names.Auxiliary = 24
field_number names.AfterAuxiliary = 25
field_number names.ErrorReason = 26
field_number names.ErrorData = 27
field_number names.CarrierFormat = 28
field_number names.CarrierKindLength = 29
field_number names.CarrierKind = 30
field_number names.CarrierData = 31

-- the name of the field with this number is given
pub record GivesFieldName (number : ℕ) (before after : List ℕ) (count status : ℕ) : Type 0 where
  pub name : FieldName
  pub number_is : field_number name ≡ number
  pub gives : Gives (name_text name) before after count status

-- ---- fields

-- the limits may be set, and payloads are validated
abbrev pub MayTellFields : NdefLimits → Type 0
MayTellFields n = MayBeSet n × ChecksPayloads n

-- a field as numbers
abbrev pub numbers_of : Field → NdefField
numbers_of f = record { at = f.at; length = f.length; depth = f.depth; name = field_number f.name }

-- NDEF 1.0, messages: the answer of a check of the bytes, and the fields of the message with which
-- they begin, or those before the refused byte
pub record AreFieldsChecked (limits : LimitValues) (bytes : List ℕ) (checked : ℕ) (refusal : NdefChecked)
    (reported : List Field) : Type 0 where
  pub checks : ChecksTo IsTypedPayload TypedReason limits bytes checked refusal
  pub whole : checked ≡ OK → (a : AreFields limits bytes reported) × (a.count ≡ refusal.place)
  pub before : checked ≡ REFUSED → AreFieldsBefore (take refusal.place bytes) reported

-- the fields are written if the array is large enough, and the answer is that of the check; else the
-- array is unchanged; their number is given
pub record GivesEach (reported : List Field) (checked : ℕ) (before after : List NdefField) (count status : ℕ)
    : Type 0 where
  pub count_is : count ≡ length reported
  pub fits : length reported ≤ length before → (status ≡ checked)
      × (after ≡ set_over (map numbers_of reported) before)
  pub too_small : length before < length reported → (status ≡ BUFFER_TOO_SMALL) × (after ≡ before)

-- NDEF 1.0, messages: the fields of the message are given, or those before the refused byte
pub record GivesFields (limits : LimitValues) (bytes : List ℕ) (before after : List NdefField) (count status : ℕ)
    (refusal : NdefChecked) : Type 0 where
  pub checked : ℕ
  pub reported : List Field
  pub are : AreFieldsChecked limits bytes checked refusal reported
  pub gives : GivesEach reported checked before after count status

-- NDEF 1.0, TYPE and chunked payloads: the fields of the joined payload of a record with this type
-- are given
pub record GivesPayloadFields (tnf : ℕ) (kind payload : List ℕ) (before after : List NdefField) (count status : ℕ)
    : Type 0 where
  pub reported : List Field
  pub are : ArePayloadFields (kind_of (tnf_of tnf) kind) payload reported
  pub gives : GivesEach reported OK before after count status

-- ---- the field of a byte

-- it is one of the fields, and the byte at the place is in it
pub record IsFieldWith (reported : List Field) (place : ℕ) (f : Field) : Type 0 where
  pub before : List Field
  pub following : List Field
  pub split : reported ≡ before ++ f ∷ following
  pub from : f.at ≤ place
  pub to : place < f.at + f.length

-- the field with the byte is given
abbrev pub GivesWith : (reported : List Field) (place : ℕ) (after : NdefField) → Type 0
GivesWith reported place after = (f : Field) × IsFieldWith reported place f × (after ≡ numbers_of f)

-- NDEF 1.0, messages: the field of the byte at the place is given, of the message or
-- before the refused byte; none where the place is after
pub record GivesFieldAt (limits : LimitValues) (bytes : List ℕ) (place : ℕ) (before after : NdefField) (status : ℕ)
    (refusal : NdefChecked) : Type 0 where
  pub checked : ℕ
  pub reported : List Field
  pub are : AreFieldsChecked limits bytes checked refusal reported
  pub within : place < refusal.place → (status ≡ OK) × GivesWith reported place after
  pub ended : refusal.place ≤ place → checked ≡ OK → (status ≡ END) × (after ≡ before)
  pub refused : refusal.place ≤ place → checked ≡ REFUSED → (status ≡ REFUSED) × (after ≡ before)

-- ---- law

-- A byte at a place is in exactly one field.
abbrev pub OneFieldWith : Type 0
OneFieldWith = (reported : List Field) (end place : ℕ) (f g : Field) → AreGapless 0 reported end
    → IsFieldWith reported place f → IsFieldWith reported place g → f ≡ g

-- The byte after a field is in the next one.
abbrev pub StepsLeadOn : Type 0
StepsLeadOn = (reported before following : List Field) (end : ℕ) (f g : Field) → AreGapless 0 reported end
    → reported ≡ before ++ f ∷ g ∷ following → IsFieldWith reported (f.at + f.length) g
