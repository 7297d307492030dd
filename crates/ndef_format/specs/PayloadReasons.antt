-- Why an octet is refused in the payload of a single record (RTD Text 1.0, RTD URI 1.0).
use Rattle.std.specs.Prelude.{ℕ, List, ◌∷◌, ◌++◌, IsUtf8, nat_lt, if◌then◌else◌, [], length, drop, ◌<◌}
use Rattle.ndef_format.specs.Reasons.{OneReason, NoReason}
use Rattle.ndef_format.specs.Texts.{IsUtf16, is_wide, code_length, IsReservedSet}
use Rattle.ndef_format.specs.Uris.{IsReserved}
use Rattle.ndef_format.specs.declared.reason.Reason.{Reason}
use Rattle.ndef_format.specs.declared.reason.Reason.TheVariants as reasons
use Rattle.ndef_format.specs.declared.profile.Profile.{Profile}
use Rattle.ndef_format.specs.declared.kind.Kind.{Kind}
use Rattle.ndef_format.specs.declared.kind.Kind.TheVariants as kinds

-- some list passes
abbrev pub Passes : (List ℕ → Type 0) → Type 0
Passes future = (r : List ℕ) × future r

-- the octets s of a text and the octet b begin none, whatever follows
abbrev pub EndsUtf8 : List ℕ → ℕ → Type 0
EndsUtf8 s b = Passes (λ r. IsUtf8 (s ++ b ∷ r)) → ⊥

-- which reasons hold of the octet b after the octets s of a text
abbrev pub Utf8Reason : List ℕ → ℕ → Reason → Type 0
Utf8Reason s b = OneReason reasons.Utf8 (EndsUtf8 s b)

-- the octets s of a text and the octet b begin none, whatever follows
abbrev pub EndsUtf16 : List ℕ → ℕ → Type 0
EndsUtf16 s b = Passes (λ r. IsUtf16 (s ++ b ∷ r)) → ⊥

-- which reasons hold of the octet b after the octets s of a text
abbrev pub Utf16Reason : List ℕ → ℕ → Reason → Type 0
Utf16Reason s b = OneReason reasons.Utf16 (EndsUtf16 s b)

-- what the next octet of a payload is; of a text, with the octets of the text before it
pub data TextField : Type 0 where
  status_octet : TextField
  code_octet : TextField
  utf8_octet : List ℕ → TextField
  utf16_octet : List ℕ → TextField

-- RTD Text 1.0, syntax: the field of the octet that follows these
abbrev pub next_text_field : List ℕ → TextField
next_text_field [] = status_octet
next_text_field (status ∷ s) =
    if nat_lt (length s) (code_length status) then code_octet
    else (if is_wide status then utf16_octet (drop (code_length status) s)
    else utf8_octet (drop (code_length status) s))

-- which reasons hold of the octet b of a field
abbrev pub TextFieldReason : TextField → ℕ → Reason → Type 0
TextFieldReason status_octet b = OneReason reasons.TextBit (IsReservedSet b)
TextFieldReason code_octet b = OneReason reasons.Language (0x7f < b)
TextFieldReason (utf8_octet text) b = Utf8Reason text b
TextFieldReason (utf16_octet text) b = Utf16Reason text b

-- which reasons hold of the octet b after the octets s of a payload
abbrev pub TextReason : List ℕ → ℕ → Reason → Type 0
TextReason s b = TextFieldReason (next_text_field s) b

-- which reasons hold of the octet b after the octets s of a payload
abbrev pub UriReason : Profile → List ℕ → ℕ → Reason → Type 0
UriReason profile [] b = OneReason reasons.UriCode (IsReserved profile b)
UriReason profile (code ∷ s) b = Utf8Reason s b

-- which reasons hold of the octet b after the octets s of a payload of a kind
abbrev pub PayloadReason : Kind → Profile → List ℕ → ℕ → Reason → Type 0
PayloadReason kinds.Text profile s b = TextReason s b
PayloadReason kinds.Uri profile s b = UriReason profile s b
PayloadReason kinds.MediaType profile s b = Utf8Reason s b
PayloadReason kinds.SmartPoster profile s b = NoReason
PayloadReason kinds.Request profile s b = NoReason
PayloadReason kinds.Select profile s b = NoReason
PayloadReason kinds.Carrier profile s b = NoReason
PayloadReason kinds.Action profile s b = NoReason
PayloadReason kinds.Size profile s b = NoReason
PayloadReason kinds.Alternative profile s b = NoReason
PayloadReason kinds.Collision profile s b = NoReason
PayloadReason kinds.Error profile s b = NoReason
PayloadReason kinds.Other profile s b = NoReason
