-- The fields of payloads, one after another.
use Rattle.std.specs.Prelude.{◌≡◌, ◌-◌, ◌==◌, ◌||◌, if◌then◌else◌, ⊤, Bool, true, false, ℕ, zero, suc, ◌<◌, List, [], ◌∷◌, ◌++◌, IsUtf8, ◌↔◌}
use Rattle.ndef_format.specs.Records.{AreOctets}
use Rattle.ndef_format.specs.declared.profile.Profile.{Profile}
use Rattle.ndef_format.specs.declared.kind.Kind.{Kind}
use Rattle.ndef_format.specs.declared.kind.Kind.TheVariants as kinds
use Rattle.ndef_format.specs.declared.reason.Reason.{Reason}
use Rattle.ndef_format.specs.declared.reason.Reason.TheVariants as reasons
use Rattle.ndef_format.specs.Octets.{IsOctet, Octets, Counted}
use Rattle.ndef_format.specs.Texts.{IsCodeOctet, IsReservedSet, IsText, IsUtf16, code_length, is_wide}
use Rattle.ndef_format.specs.Uris.{IsReserved, IsUri}
use Rattle.ndef_format.specs.Handovers.{AreReferences, AreAuxiliary, IsError}
use Rattle.ndef_format.specs.Reasons.{OneReason, NoReason}
use Rattle.ndef_format.specs.PayloadReasons.{Passes, PayloadReason, TextReason, UriReason}
use Rattle.ndef_lang.specs.declared.lengths.Lengths.{Lengths}
use Rattle.ndef_lang.specs.declared.lengths.Lengths.TheVariants.{Never, Exactly, From, PairsFrom}
use Rattle.ndef_lang.specs.declared.leaf.Class.{Class}
use Rattle.ndef_lang.specs.declared.leaf.Class.TheVariants as classes
use Rattle.ndef_lang.specs.declared.leaf.Stage.{Stage}
use Rattle.ndef_lang.specs.declared.leaf.Stage.TheVariants as stages
use Rattle.ndef_lang.specs.declared.leaf.Leaf.{Leaf}
use Rattle.ndef_lang.specs.declared.leaf.Leaf.TheVariants.{Field, Utf8, Utf16, Refused}
use Rattle.ndef_lang.specs.Octets.{later}
use Rattle.ndef_lang.specs.Machine.Utf8.{CompletesUtf8, utf8_reason, utf8_lengths}
use Rattle.ndef_lang.specs.Machine.Utf16.{CompletesUtf16, utf16_reason, utf16_lengths}

-- ---- the octets that complete a payload

-- the octets of a field
abbrev pub InClass : Class → ℕ → Type 0
InClass classes.Any b = IsOctet b
InClass classes.Code b = IsCodeOctet b

-- RTD Text 1.0, RTD URI 1.0 and Connection Handover 1.2: what a payload goes on with from there
abbrev pub CompletesStage : Stage → List ℕ → Type 0
CompletesStage stages.End r = r ≡ []
CompletesStage stages.Any r = AreOctets r
CompletesStage stages.Utf8 r = IsUtf8 r
CompletesStage stages.Utf16 r = IsUtf16 r
CompletesStage stages.Status r = IsText r
CompletesStage (stages.UriCode profile) r = IsUri profile r
CompletesStage stages.ErrorReason r = IsError r
CompletesStage stages.CarrierKindLength r = Counted AreOctets r
CompletesStage stages.ReferenceLength r = Counted AreAuxiliary r
CompletesStage stages.AuxiliaryCount r = AreAuxiliary r
CompletesStage (stages.References count) r = AreReferences count r

-- the text after a language code
abbrev pub text_stage : Bool → Stage
text_stage true = stages.Utf16
text_stage false = stages.Utf8

-- the data of an error
abbrev pub error_length : ℕ → ℕ
error_length b = if b == 1 || b == 3 then 1 else (if b == 2 then 4 else 0)

abbrev pub error_stage : ℕ → Stage
error_stage b = if b == 1 || b == 3 then stages.End else (if b == 2 then stages.End else stages.Any)

-- the field after the first octet
abbrev pub field_after : Stage → ℕ → Leaf
field_after stages.Status b = Field (code_length b) classes.Code (text_stage (is_wide b))
field_after (stages.UriCode profile) b = Field 0 classes.Any stages.Utf8
field_after stages.ErrorReason b = Field (error_length b) classes.Any (error_stage b)
field_after stages.CarrierKindLength b = Field b classes.Any stages.Any
field_after stages.ReferenceLength b = Field b classes.Any stages.AuxiliaryCount
field_after stages.AuxiliaryCount b = Field 0 classes.Any (stages.References b)
field_after (stages.References count) b =
    if count == 0 then Field 0 classes.Any stages.Any else Field b classes.Any (stages.References (count - 1))
field_after stage b = Field 0 classes.Any stage

-- the first octet is one of the layout's
abbrev pub MayLead : Stage → ℕ → Type 0
MayLead stages.End b = ⊥
MayLead stages.Utf8 b = ⊥
MayLead stages.Utf16 b = ⊥
MayLead stages.Status b = IsReservedSet b → ⊥
MayLead (stages.UriCode profile) b = IsReserved profile b → ⊥
MayLead _ b = ⊤

-- before the first octet of a payload of a kind
abbrev pub leaf_of : Kind → Profile → Leaf
leaf_of kinds.Text profile = Field 0 classes.Any stages.Status
leaf_of kinds.Uri profile = Field 0 classes.Any (stages.UriCode profile)
leaf_of kinds.MediaType profile = Field 0 classes.Any stages.Utf8
leaf_of kinds.Action profile = Field 1 classes.Any stages.End
leaf_of kinds.Size profile = Field 4 classes.Any stages.End
leaf_of kinds.Collision profile = Field 2 classes.Any stages.End
leaf_of kinds.Alternative profile = Field 1 classes.Any stages.ReferenceLength
leaf_of kinds.Error profile = Field 0 classes.Any stages.ErrorReason
leaf_of kinds.Carrier profile = Field 1 classes.Any stages.CarrierKindLength
leaf_of _ profile = Field 0 classes.Any stages.Any

-- the octets that complete a payload
abbrev pub CompletesLeaf : Leaf → List ℕ → Type 0
CompletesLeaf (Field left class next) r = Octets (InClass class) left (CompletesStage next) r
CompletesLeaf (Utf8 text) r = CompletesUtf8 text r
CompletesLeaf (Utf16 text) r = CompletesUtf16 text r
CompletesLeaf (Refused reason) r = ⊥

-- ---- which lengths complete it

abbrev pub stage_lengths : Stage → Lengths
stage_lengths stages.End = Exactly 0
stage_lengths stages.Any = From 0
stage_lengths stages.Utf8 = From 0
stage_lengths stages.Utf16 = PairsFrom 0
stage_lengths stages.Status = From 1
stage_lengths (stages.UriCode profile) = From 1
stage_lengths stages.ErrorReason = From 1
stage_lengths stages.CarrierKindLength = From 1
stage_lengths stages.ReferenceLength = From 2
stage_lengths stages.AuxiliaryCount = From 1
stage_lengths (stages.References count) = From count

abbrev pub leaf_lengths : Leaf → Lengths
leaf_lengths (Field left class next) = later left (stage_lengths next)
leaf_lengths (Utf8 text) = utf8_lengths text
leaf_lengths (Utf16 text) = utf16_lengths text
leaf_lengths (Refused reason) = Never

-- ---- why an octet is refused

-- the octets u and b begin nothing that passes
abbrev pub BeginNothing : (List ℕ → Type 0) → List ℕ → ℕ → Type 0
BeginNothing future u b = Passes (λ r. future (u ++ b ∷ r)) → ⊥

-- which reasons hold of an octet of a field
abbrev pub ClassReason : Class → ℕ → Reason → Type 0
ClassReason classes.Any b = NoReason
ClassReason classes.Code b = OneReason reasons.Language (0x7f < b)

-- which reasons hold of the octet b after the octets u
abbrev pub StageReason : Stage → List ℕ → ℕ → Reason → Type 0
StageReason stages.Utf8 u b = OneReason reasons.Utf8 (BeginNothing IsUtf8 u b)
StageReason stages.Utf16 u b = OneReason reasons.Utf16 (BeginNothing IsUtf16 u b)
StageReason stages.Status u b = TextReason u b
StageReason (stages.UriCode profile) u b = UriReason profile u b
StageReason _ u b = NoReason

abbrev pub FieldReason : Class → ℕ → Stage → List ℕ → ℕ → Reason → Type 0
FieldReason class zero next u b = StageReason next u b
FieldReason class (suc n) next [] b = ClassReason class b
FieldReason class (suc n) next (c ∷ u) b = FieldReason class n next u b

abbrev pub Holds : Leaf → List ℕ → ℕ → Reason → Type 0
Holds (Field left class next) u b = FieldReason class left next u b
Holds (Utf8 text) u b = OneReason reasons.Utf8 (BeginNothing (CompletesUtf8 text) u b)
Holds (Utf16 text) u b = OneReason reasons.Utf16 (BeginNothing (CompletesUtf16 text) u b)
Holds (Refused reason) u b = NoReason

-- after the octets s these reasons are those of the state
abbrev pub GoesOn : (List ℕ → ℕ → Reason → Type 0) → List ℕ → Leaf → Type 0
GoesOn holds s state = (u : List ℕ) (b : ℕ) (reason : Reason) → holds (s ++ u) b reason ↔ Holds state u b reason

abbrev pub StageGoesOn : Stage → ℕ → Leaf → Type 0
StageGoesOn stage byte state = GoesOn (StageReason stage) (byte ∷ []) state

-- the octets so far, where something completes them, by the conditions of the payload
abbrev pub ReachedBy : Leaf → (List ℕ → ℕ → Reason → Type 0) → List ℕ → Type 0
ReachedBy state holds s = Passes (CompletesLeaf state) → GoesOn holds s state

-- the octets so far of a payload of a kind
abbrev pub LeafReached : Leaf → Kind → Profile → List ℕ → Type 0
LeafReached state kind profile s = ReachedBy state (PayloadReason kind profile) s

-- the reason of the octet taken last
abbrev pub leaf_reason : Leaf → Reason
leaf_reason (Field left class next) = reasons.DoesNotFit
leaf_reason (Utf8 text) = utf8_reason text
leaf_reason (Utf16 text) = utf16_reason text
leaf_reason (Refused reason) = reason
