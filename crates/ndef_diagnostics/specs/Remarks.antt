-- Remarks about a message that is accepted.
use Rattle.std.specs.Prelude.{ℕ, ◌==◌, ◌&&◌, ◌||◌, ◌%◌, ◌++◌, if◌then◌else◌, Bool, false, Option, Some, None, List, [], ◌∷◌, codes, decimal, nat_lt}
use Rattle.ndef_fields.specs.declared.name.FieldName.{FieldName}
use Rattle.ndef_fields.specs.declared.name.FieldName.TheVariants as names
use Rattle.ndef_diagnostics.specs.declared.remark.Remark.{Remark}
use Rattle.ndef_diagnostics.specs.declared.remark.Remark.TheVariants as remarks

-- RFC 3986, section 2: a control character of ASCII, which no URI has
abbrev pub is_control : ℕ → Bool
is_control octet = nat_lt octet 32 || octet == 127

-- one of the octets is one
abbrev pub has_control : List ℕ → Bool
has_control [] = false
has_control (b ∷ s) = is_control b || has_control s

-- RTD URI 1.0, URI field: the rest of a URI
abbrev pub rest_remark : List ℕ → Option Remark
rest_remark s = if has_control s then Some remarks.ControlCharacter else None

-- RTD URI 1.0, URI identifier codes: those above 23 (hexadecimal) are reserved
abbrev pub code_remark : ℕ → Option Remark
code_remark code = if nat_lt 35 code then Some (remarks.ReservedCode code) else None

-- RTD Smart Poster 1.0, Recommended Action record: those above 2 are reserved
abbrev pub action_remark : ℕ → Option Remark
action_remark action = if nat_lt 2 action then Some (remarks.ReservedAction action) else None

-- Connection Handover 1.2, Error record: 0, and those above 3, are reserved
abbrev pub error_remark : ℕ → Option Remark
error_remark reason = if reason == 0 || nat_lt 3 reason then Some (remarks.ReservedError reason) else None

-- Connection Handover 1.2, Handover Carrier record: the formats 0 and 5 to 7, in bits 2 to 0, are reserved
abbrev pub format_remark : ℕ → Option Remark
format_remark octet =
    if octet % 8 == 0 || nat_lt 4 (octet % 8) then Some (remarks.ReservedFormat (octet % 8)) else None

-- Connection Handover 1.2, Alternative Carrier record: bits 7 to 2 of the octet with the power state are reserved
abbrev pub power_remark : ℕ → Option Remark
power_remark octet = if nat_lt 3 octet then Some (remarks.ReservedPower octet) else None

-- NDEF 1.0, SR: a payload of at most 255 octets fits a short record
abbrev pub size_remark : List ℕ → Option Remark
size_remark (a ∷ b ∷ c ∷ d ∷ []) = if a == 0 && b == 0 && c == 0 then Some (remarks.LongForm d) else None
size_remark s = None

-- NDEF 1.0, IL: a record without an id needs no ID_LENGTH
abbrev pub id_remark : ℕ → Option Remark
id_remark size = if size == 0 then Some remarks.EmptyId else None

-- NDEF 1.0, RTD URI 1.0, RTD Smart Poster 1.0 and Connection Handover 1.2: the remark about a field with these octets
abbrev pub field_remark : FieldName → List ℕ → Option Remark
field_remark names.UriRest s = rest_remark s
field_remark names.PayloadLength s = size_remark s
field_remark names.UriCode (code ∷ []) = code_remark code
field_remark names.Action (action ∷ []) = action_remark action
field_remark names.ErrorReason (reason ∷ []) = error_remark reason
field_remark names.CarrierFormat (octet ∷ []) = format_remark octet
field_remark names.Power (octet ∷ []) = power_remark octet
field_remark names.IdLength (size ∷ []) = id_remark size
field_remark name s = None

-- ---- sentences

-- a sentence with a number
abbrev pub numbered_text : (before : List ℕ) → ℕ → (end : List ℕ) → List ℕ
numbered_text before number end = before ++ decimal number ++ end

-- the sentence for a remark without a number
abbrev pub plain_text : Remark → List ℕ
plain_text remarks.ControlCharacter = codes "The URI has a control character."
plain_text remarks.EmptyId =
    codes "The id is empty: without ID_LENGTH (IL) the message could be 1 byte shorter."
plain_text remarks.LittleEndian =
    codes "Every second octet of the text is 0: it may be little-endian, without a byte order mark."
plain_text remarks.RepeatedId = codes "Another record has the same id."
plain_text remarks.SameLanguage = codes "Two titles of the smart poster have the same language."
plain_text remarks.NoCarrier = codes "The request has no alternative carrier (`ac`)."
plain_text remarks.SecondCollision = codes "The request has a second collision record (`cr`)."
plain_text remarks.DanglingReference =
    codes "A reference of an alternative carrier (`ac`) is to no record of the message."
plain_text remark = []

-- the sentence for a remark
abbrev pub remark_text : Remark → List ℕ
remark_text (remarks.ReservedCode code) =
    numbered_text (codes "The identifier code ") code
    (codes " is reserved, and read as 0: was the identifier code left out?")
remark_text (remarks.ReservedAction action) =
    numbered_text (codes "The action ") action (codes " is reserved.")
remark_text (remarks.ReservedError reason) =
    numbered_text (codes "The error reason ") reason (codes " is reserved.")
remark_text (remarks.ReservedFormat format) =
    numbered_text (codes "The carrier type format ") format (codes " is reserved.")
remark_text (remarks.ReservedPower octet) =
    numbered_text (codes "The octet ") octet (codes " of the carrier power state has reserved bits set.")
remark_text (remarks.LongForm size) =
    numbered_text (codes "The payload length ") size
    (codes " fits one octet (SR): the message could be 3 bytes shorter.")
remark_text remark = plain_text remark
