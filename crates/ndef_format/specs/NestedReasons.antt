-- Why an octet is refused in a nested message, and in any payload (RTD Smart Poster 1.0, Connection
-- Handover 1.2).
use Rattle.std.specs.Prelude.{ℕ, Option, Some, None, ◌≡◌, List, [], ◌∷◌, ◌⊎◌, ◌≢◌, true, Bool}
use Rattle.ndef_format.specs.Limits.{LimitValues}
use Rattle.ndef_format.specs.Records.{Run, tnf_of}
use Rattle.ndef_format.specs.Kinds.{outer_kind}
use Rattle.ndef_format.specs.Nested.{kind_in, table_in, IsVersion}
use Rattle.ndef_format.specs.HeadReasons.{is_set, tnf_number, conditions}
use Rattle.ndef_format.specs.Positions.{Field, InHead, InType, InPayload, spot_after, IsAt}
use Rattle.ndef_format.specs.PayloadReasons.{PayloadReason}
use Rattle.ndef_format.specs.Reasons.{OneReason, Conditions, KindConditions, reasons_by_kind}
use Rattle.ndef_format.specs.declared.profile.Profile.{Profile}
use Rattle.ndef_format.specs.declared.kind.Kind.TheVariants as kinds
use Rattle.ndef_format.specs.declared.table.Table.TheVariants.{SmartPoster, Request, Select}
use Rattle.ndef_format.specs.declared.tnf.Tnf.TheVariants.{WellKnown}
use Rattle.ndef_format.specs.declared.reason.Reason.{Reason}
use Rattle.ndef_format.specs.declared.table.Table.{Table}
use Rattle.ndef_format.specs.declared.reason.Reason.TheVariants as reasons
use Rattle.ndef_format.specs.declared.kind.Kind.{Kind}

-- limits of the reader, not of the standards: a nested message has at most this number of records,
-- each in one piece, and any payloads (NDEF 1.0, 2.3.3 allows chunks in any message)
abbrev pub nested_limits : (records : ℕ) → Profile → LimitValues
nested_limits records profile =
    record { payload = 4294967295; records = records; pieces = 1; profile = profile }

-- one of the records is a URI
abbrev pub HasUri : List Run → Type 0
HasUri [] = ⊥
HasUri (r ∷ runs) =
    (kind_in SmartPoster (tnf_of r.initial.tnf) r.initial.kind ≡ kinds.Uri) ⊎ HasUri runs

-- RTD Smart Poster 1.0: the field of a last record that no URI comes before shows that it isn't one
abbrev pub IsUriMissing : Field → ℕ → Type 0
IsUriMissing (InHead []) b = (is_set 6 b ≡ true) × (tnf_number b ≢ 1)
IsUriMissing (InHead (header ∷ [])) b = (is_set 6 header ≡ true) × (b ≢ 1)
IsUriMissing (InType head name) b = (head.last ≡ true) × (b ≢ 0x55)
IsUriMissing _ b = ⊥

-- RTD Smart Poster 1.0: a type octet makes the record a URI
abbrev pub IsUriAgain : Field → ℕ → Type 0
IsUriAgain (InType head name) b =
    (tnf_of head.tnf ≡ WellKnown) × (head.kind_length ≡ 1) × (b ≡ 0x55)
IsUriAgain _ b = ⊥

-- Connection Handover 1.2: the field of a first record shows that it is no collision resolution
abbrev pub IsCollisionMissing : Field → ℕ → Type 0
IsCollisionMissing (InHead []) b = tnf_number b ≢ 1
IsCollisionMissing (InHead (header ∷ [])) b = b ≢ 2
IsCollisionMissing (InType head []) b = b ≢ 0x63
IsCollisionMissing (InType head (first ∷ [])) b = b ≢ 0x72
IsCollisionMissing _ b = ⊥

-- the condition of this reason is in the list, and holds
abbrev pub Listed : List (Reason × Bool) → Reason → Type 0
Listed [] reason = ⊥
Listed (c ∷ cs) reason = ((c.0 ≡ reason) × (c.1 ≡ true)) ⊎ Listed cs reason

-- a condition of the field: of a head, or of a payload
abbrev pub OfField : Table → ℕ → Profile → List Run → Field → ℕ → Reason → Type 0
OfField table records profile runs (InHead front) b reason =
    Listed (conditions (spot_after (nested_limits records profile) runs []) front b) reason
OfField table records profile runs (InPayload head name id content) b reason =
    PayloadReason (kind_in table (tnf_of head.tnf) name) profile content b reason
OfField table records profile runs _ b reason = ⊥

-- a condition of the nested message
abbrev pub OfMessage : Table → List Run → Field → ℕ → Reason → Type 0
OfMessage SmartPoster runs field b reason =
    ((reason ≡ reasons.UriMissing) × (HasUri runs → ⊥) × IsUriMissing field b)
    ⊎ ((reason ≡ reasons.UriAgain) × HasUri runs × IsUriAgain field b)
OfMessage Request runs field b reason =
    (reason ≡ reasons.CollisionMissing) × (runs ≡ []) × IsCollisionMissing field b
OfMessage Select runs field b reason = ⊥

-- which reasons hold of the octet b after the octets s of a nested message
abbrev pub MessageReason : Table → ℕ → Profile → List ℕ → ℕ → Reason → Type 0
MessageReason table records profile s b reason =
    ((runs : List Run) × (field : Field) × IsAt (nested_limits records profile) s runs [] field
    × (OfField table records profile runs field b reason ⊎ OfMessage table runs field b reason))
    ⊎ (reason ≡ reasons.DoesNotFit)

-- which reasons hold of the octet b after the octets s of a payload that holds a nested message
abbrev pub NestReason : Table → ℕ → Profile → List ℕ → ℕ → Reason → Type 0
NestReason SmartPoster records profile s b reason =
    MessageReason SmartPoster records profile s b reason
NestReason table records profile [] b reason = OneReason reasons.Version (IsVersion b → ⊥) reason
NestReason table records profile (version ∷ s) b reason =
    MessageReason table records profile s b reason

-- the same of a payload of a kind, which holds this message or none
abbrev pub TypedReasonBy : Option Table → Kind → ℕ → Profile → List ℕ → ℕ → Reason → Type 0
TypedReasonBy (Some table) kind records profile s b = NestReason table records profile s b
TypedReasonBy None kind records profile s b = PayloadReason (outer_kind kind) profile s b

-- which reasons hold of the octet b after the octets s of the payload of a record of a message
abbrev pub KindReason : KindConditions
KindReason kind = TypedReasonBy (table_in kind) kind

-- .. and of their types
abbrev pub TypedReason : Conditions
TypedReason = reasons_by_kind KindReason
