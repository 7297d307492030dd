-- The values of payloads, and the octets that are written (NFC Forum, RTD Text 1.0, RTD URI 1.0 and Connection
-- Handover 1.2).
use Rattle.std.specs.Prelude.{◌≡◌, ℕ, zero, suc, ◌+◌, ◌%◌, ◌<◌, ◌≤◌, Bool, true, false, List, [], ◌∷◌, ◌++◌, length, take, drop, slice_index, IsAscii, encode_utf8_all}
use Rattle.std.specs.List.{AllByRecursion, flat_map}
use Rattle.std.specs.Str.{all_scalars}
use Rattle.ndef_format.specs.Records.{AreOctets}
use Rattle.ndef_format.specs.Octets.{IsOctet}
use Rattle.ndef_format.specs.Handovers.{IsErrorData}
use Rattle.ndef_format.specs.Texts.{is_wide, code_length, units_of, spelled, unmarked}
use Rattle.ndef_types.specs.Prefixes.{prefix_of, IsLongest}
use Rattle.ndef_types.specs.declared.power.Power.{Power}
use Rattle.ndef_types.specs.declared.power.Power.TheVariants.{Inactive, Active, Activating, Unknown}
use Rattle.ndef_types.specs.declared.encoding.Encoding.{Encoding}
use Rattle.ndef_types.specs.declared.encoding.Encoding.TheVariants.{Utf8, Utf16}

-- ---- texts

-- RTD Text 1.0: an encoding, the octets of a language code and the characters of a text
pub record TextValue : Type 0 where
  pub encoding : Encoding
  pub language : List ℕ
  pub text : List ℕ

-- RTD Text 1.0, language code: up to 63 octets of ASCII; RFC 3629, section 3: the characters are
-- scalar values
pub record IsTextValue (v : TextValue) : Type 0 where
  pub short : length v.language ≤ 63
  pub language : IsAscii v.language
  pub text : all_scalars v.text ≡ true

-- RTD Text 1.0, status octet: bit 7 is set for UTF-16
abbrev pub is_utf16 : Encoding → Bool
is_utf16 Utf8 = false
is_utf16 Utf16 = true

-- RTD Text 1.0, text: the octets are those of these characters; the byte order mark of UTF-16 isn't
-- one of them
abbrev pub SpellsText : Encoding → List ℕ → List ℕ → Type 0
SpellsText Utf8 octets text = encode_utf8_all text ≡ octets
SpellsText Utf16 octets text = spelled (unmarked octets).0 (units_of text) ≡ (unmarked octets).1

-- RTD Text 1.0, language code: the octets of it, after the status octet
abbrev pub language_octets : List ℕ → List ℕ
language_octets payload = take (code_length (slice_index payload 0)) (drop 1 payload)

-- RTD Text 1.0, text: the octets after the language code
abbrev pub encoded_octets : List ℕ → List ℕ
encoded_octets payload = drop (code_length (slice_index payload 0)) (drop 1 payload)

-- RTD Text 1.0: a status octet, a language code and a text
pub record StandsForText (payload : List ℕ) (v : TextValue) : Type 0 where
  pub encoding : is_wide (slice_index payload 0) ≡ is_utf16 v.encoding
  pub language : language_octets payload ≡ v.language
  pub text : SpellsText v.encoding (encoded_octets payload) v.text
  pub scalars : all_scalars v.text ≡ true

-- RTD Text 1.0, status octet: it gives the encoding and the length of the language code
abbrev pub status_octet : Encoding → ℕ → ℕ
status_octet Utf8 n = n
status_octet Utf16 n = 128 + n

-- RTD Text 1.0, text; RFC 2781, section 3.2: UTF-16 is written big-endian, after its mark
abbrev pub text_octets : Encoding → List ℕ → List ℕ
text_octets Utf8 text = encode_utf8_all text
text_octets Utf16 text = 0xfe ∷ 0xff ∷ spelled false (units_of text)

-- RTD Text 1.0: the payload of a text
abbrev pub text_payload : TextValue → List ℕ
text_payload v =
    status_octet v.encoding (length v.language) ∷ (v.language ++ text_octets v.encoding v.text)

-- RTD Text 1.0: the octets that are written for a text
abbrev pub WritesText : TextValue → List ℕ → Type 0
WritesText v payload = payload ≡ text_payload v

-- ---- URIs, each as its octets of UTF-8

-- RTD URI 1.0: a code, which abbreviates a prefix, and the rest of the URI
abbrev pub StandsForUri : List ℕ → List ℕ → Type 0
StandsForUri [] uri = ⊥
StandsForUri (code ∷ rest) uri = uri ≡ prefix_of code ++ rest

-- RTD URI 1.0, URI identifier codes: what is written abbreviates the longest prefix
abbrev pub WritesUri : List ℕ → List ℕ → Type 0
WritesUri uri [] = ⊥
WritesUri uri (code ∷ rest) = IsLongest uri code × (uri ≡ prefix_of code ++ rest)

-- ---- handover errors

-- Connection Handover 1.2, Error record: a reason, and its data
pub record ErrorValue : Type 0 where
  pub reason : ℕ
  pub detail : List ℕ

-- Connection Handover 1.2, Error record: the data goes with the reason
abbrev pub IsErrorValue : ErrorValue → Type 0
IsErrorValue v = IsOctet v.reason × IsErrorData v.reason v.detail

-- Connection Handover 1.2, Error record: the payload of an error
abbrev pub error_payload : ErrorValue → List ℕ
error_payload v = v.reason ∷ v.detail

-- Connection Handover 1.2, Error record: an error has one payload
abbrev pub StandsForError : List ℕ → ErrorValue → Type 0
StandsForError payload v = payload ≡ error_payload v

-- Connection Handover 1.2, Error record: the octets that are written for an error
abbrev pub WritesError : ErrorValue → List ℕ → Type 0
WritesError v payload = payload ≡ error_payload v

-- ---- handover carriers

-- Connection Handover 1.2, Handover Carrier record: a carrier type format, a carrier type and
-- carrier data
pub record CarrierValue : Type 0 where
  pub format : ℕ
  pub kind : List ℕ
  pub carried : List ℕ

-- Connection Handover 1.2, Handover Carrier record: a format of three bits, up to 255 octets of
-- type, and any octets
pub record IsCarrierValue (v : CarrierValue) : Type 0 where
  pub format : v.format < 8
  pub short : length v.kind < 256
  pub kind : AreOctets v.kind
  pub carried : AreOctets v.carried

-- Connection Handover 1.2, Handover Carrier record: the five high bits of the first octet are
-- reserved, and ignored
abbrev pub StandsForCarrier : List ℕ → CarrierValue → Type 0
StandsForCarrier (format ∷ n ∷ s) v =
    (format % 8 ≡ v.format) × (take n s ≡ v.kind) × (drop n s ≡ v.carried)
StandsForCarrier _ v = ⊥

-- Connection Handover 1.2, Handover Carrier record: the payload of a carrier, its reserved bits 0
abbrev pub carrier_payload : CarrierValue → List ℕ
carrier_payload v = v.format ∷ length v.kind ∷ (v.kind ++ v.carried)

-- Connection Handover 1.2, Handover Carrier record: the octets that are written for a carrier
abbrev pub WritesCarrier : CarrierValue → List ℕ → Type 0
WritesCarrier v payload = payload ≡ carrier_payload v

-- ---- alternative carriers

-- Connection Handover 1.2, Alternative Carrier record, carrier power state: bits 1 to 0
abbrev pub power_code : Power → ℕ
power_code Inactive = 0
power_code Active = 1
power_code Activating = 2
power_code Unknown = 3

-- Connection Handover 1.2, Alternative Carrier record: a power state, a carrier reference,
-- auxiliary references, and octets after them
pub record AcValue : Type 0 where
  pub power : Power
  pub reference : List ℕ
  pub auxiliary : List (List ℕ)
  pub rest : List ℕ

-- Connection Handover 1.2, Carrier Data Reference: up to 255 octets
abbrev pub IsReference : List ℕ → Type 0
IsReference name = (length name < 256) × AreOctets name

-- Connection Handover 1.2, Alternative Carrier record: up to 255 auxiliary references, and any
-- octets after them
pub record IsAcValue (v : AcValue) : Type 0 where
  pub reference : IsReference v.reference
  pub few : length v.auxiliary < 256
  pub auxiliary : AllByRecursion IsReference v.auxiliary
  pub rest : AreOctets v.rest

-- Connection Handover 1.2, Auxiliary Data Reference: n references, each after its length, and the
-- octets after them
abbrev pub StandForNames : ℕ → List ℕ → List (List ℕ) → List ℕ → Type 0
StandForNames zero s names rest = (names ≡ []) × (s ≡ rest)
StandForNames (suc n) (k ∷ s) (x ∷ names) rest =
    (take k s ≡ x) × StandForNames n (drop k s) names rest
StandForNames _ _ _ rest = ⊥

-- Connection Handover 1.2, Auxiliary Data Reference Count: that number of references
abbrev pub StandForAuxiliary : List ℕ → List (List ℕ) → List ℕ → Type 0
StandForAuxiliary [] names rest = ⊥
StandForAuxiliary (n ∷ s) names rest = StandForNames n s names rest

-- Connection Handover 1.2, Alternative Carrier record: the six high bits of the first octet are
-- reserved, and ignored
abbrev pub StandsForAc : List ℕ → AcValue → Type 0
StandsForAc (octet ∷ n ∷ s) v = (octet % 4 ≡ power_code v.power) × (take n s ≡ v.reference)
    × StandForAuxiliary (drop n s) v.auxiliary v.rest
StandsForAc _ v = ⊥

-- Connection Handover 1.2, Alternative Carrier record: a reference after its length
abbrev pub counted : List ℕ → List ℕ
counted name = length name ∷ name

-- Connection Handover 1.2, Alternative Carrier record: the payload of a value, its reserved bits 0
abbrev pub ac_payload : AcValue → List ℕ
ac_payload v = power_code v.power ∷ (counted v.reference
    ++ length v.auxiliary ∷ (flat_map counted v.auxiliary ++ v.rest))

-- Connection Handover 1.2, Alternative Carrier record: the octets that are written for a value
abbrev pub WritesAc : AcValue → List ℕ → Type 0
WritesAc v payload = payload ≡ ac_payload v
