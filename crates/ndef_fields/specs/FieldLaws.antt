-- The laws of the fields of messages, of fronts of messages, and of payloads.
use Rattle.std.specs.Prelude.{◌≡◌, ℕ, ◌+◌, ◌<◌, List, [], ◌∷◌, length, map, take, drop}
use Rattle.std.specs.List.{flat_map}
use Rattle.ndef_format.specs.Limits.{LimitValues}
use Rattle.ndef_format.specs.Payloads.{IsKindPayload}
use Rattle.ndef_format.specs.declared.kind.Kind.{Kind}
use Rattle.ndef_format.specs.declared.profile.Profile.{Profile}
use Rattle.ndef_fields.specs.declared.field.Field.{Field}
use Rattle.ndef_fields.specs.Messages.{ArePayloadParts}
use Rattle.ndef_fields.specs.Reports.{AreFields, AreFieldsBefore, ArePayloadFields}

-- the fields follow one another from one place to another, and none is empty
abbrev pub AreGapless : ℕ → List Field → ℕ → Type 0
AreGapless at [] end = at ≡ end
AreGapless at (f ∷ fs) end = (f.at ≡ at) × (0 < f.length) × AreGapless (at + f.length) fs end

-- ---- messages

-- An input has one list of fields.
abbrev pub OneReport : Type 0
OneReport = (limits : LimitValues) (input : List ℕ) (reported other : List Field)
    → AreFields limits input reported → AreFields limits input other → reported ≡ other

-- They follow one another from the first byte of the message to its last.
abbrev pub FieldsFollow : Type 0
FieldsFollow = (limits : LimitValues) (input : List ℕ) (reported : List Field) (a : AreFields limits input reported)
    → AreGapless 0 reported a.count

-- The bytes of each field are the octets of its part.
abbrev pub FieldsAreSlices : Type 0
FieldsAreSlices = (limits : LimitValues) (input : List ℕ) (reported : List Field) (a : AreFields limits input reported)
    → map (λ f. take f.length (drop f.at input)) reported ≡ map (λ part. part.octets) a.parts

-- ---- fronts of messages

-- A front of a message has one list of fields.
abbrev pub OneFrontReport : Type 0
OneFrontReport = (bytes : List ℕ) (reported other : List Field)
    → AreFieldsBefore bytes reported → AreFieldsBefore bytes other → reported ≡ other

-- They follow one another from its first byte to its last.
abbrev pub FrontFieldsFollow : Type 0
FrontFieldsFollow = (bytes : List ℕ) (reported : List Field)
    → AreFieldsBefore bytes reported → AreGapless 0 reported (length bytes)

-- The bytes of each field are the octets of its part.
abbrev pub FrontFieldsAreSlices : Type 0
FrontFieldsAreSlices = (bytes : List ℕ) (reported : List Field) (a : AreFieldsBefore bytes reported)
    → map (λ f. take f.length (drop f.at bytes)) reported ≡ map (λ part. part.octets) a.parts

-- ---- payloads

-- A payload has one list of fields.
abbrev pub OnePayloadReport : Type 0
OnePayloadReport = (kind : Kind) (payload : List ℕ) (reported other : List Field)
    → ArePayloadFields kind payload reported → ArePayloadFields kind payload other → reported ≡ other

-- They follow one another from its first byte to its last.
abbrev pub PayloadFieldsFollow : Type 0
PayloadFieldsFollow = (kind : Kind) (payload : List ℕ) (reported : List Field)
    → ArePayloadFields kind payload reported → AreGapless 0 reported (length payload)

-- The bytes of each field are the octets of its part.
abbrev pub PayloadFieldsAreSlices : Type 0
PayloadFieldsAreSlices = (kind : Kind) (payload : List ℕ) (reported : List Field)
    (a : ArePayloadFields kind payload reported)
    → map (λ f. take f.length (drop f.at payload)) reported ≡ map (λ part. part.octets) a.parts

-- Those of a valid payload are the parts that it has in a message.
abbrev pub PayloadsAreExact : Type 0
PayloadsAreExact = (kind : Kind) (records : ℕ) (profile : Profile) (payload : List ℕ) (reported : List Field)
    → IsKindPayload kind records profile payload
    → (a : ArePayloadFields kind payload reported) → ArePayloadParts kind payload a.parts

-- ---- the bytes of all fields

-- the bytes of a field
abbrev pub bytes_of_field : (bytes : List ℕ) → Field → List ℕ
bytes_of_field bytes f = take f.length (drop f.at bytes)

-- the bytes of all these fields, joined
abbrev pub joined_bytes : (bytes : List ℕ) → List Field → List ℕ
joined_bytes bytes fields = flat_map (bytes_of_field bytes) fields

-- The bytes of the fields of an accepted message, joined, are the message.
abbrev pub FieldsAreMessage : Type 0
FieldsAreMessage = (limits : LimitValues) (input : List ℕ) (reported : List Field) (a : AreFields limits input reported)
    → joined_bytes input reported ≡ take a.count input

-- Those of a front of a message are the front.
abbrev pub FieldsAreFront : Type 0
FieldsAreFront = (bytes : List ℕ) (reported : List Field)
    → AreFieldsBefore bytes reported → joined_bytes bytes reported ≡ bytes

-- Those of a payload are the payload.
abbrev pub FieldsArePayload : Type 0
FieldsArePayload = (kind : Kind) (payload : List ℕ) (reported : List Field)
    → ArePayloadFields kind payload reported → joined_bytes payload reported ≡ payload
