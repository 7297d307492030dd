-- The meaning of the octets of a field.
use Rattle.std.specs.Prelude.{ℕ, ◌-◌, ◌/◌, ◌%◌, nat_le, nat_lt, length, Bool, true, false, List, [], ◌∷◌, ◌++◌, codes, decimal, slice_index, if◌then◌else◌}
use Rattle.std.specs.Int.{w16, w32, from_be_bytes}
use Rattle.ndef_format.specs.HeadReasons.{is_set, tnf_number}
use Rattle.ndef_fields.specs.declared.field.Field.{Field}
use Rattle.ndef_fields.specs.declared.name.FieldName.{FieldName}
use Rattle.ndef_fields.specs.declared.name.FieldName.TheVariants as names
use Rattle.ndef_cli_explain.specs.declared.meaning.FieldReading.{FieldReading}
use Rattle.ndef_cli_explain.specs.declared.meaning.FieldReading.TheVariants as readings
use Rattle.ndef_cli.specs.Quoting.{Text}
use Rattle.ndef_cli_explain.specs.Codes.{action_words, code_text, error_words, format_text, power_text, prefix_word, tnf_words, word_of}
use Rattle.ndef_cli_explain.specs.Wordings.{text_in_utf8, worded}
use Rattle.ndef_cli_explain.specs.declared.wording.Wording.{Wording}

-- how the octets of a field of this name are read
abbrev pub reading_of : FieldName → FieldReading
reading_of names.Header = readings.Header
reading_of names.Status = readings.Status
reading_of names.KindLength = readings.Number
reading_of names.PayloadLength = readings.Number
reading_of names.IdLength = readings.Number
reading_of names.UriCode = readings.Prefix
reading_of names.Action = readings.Action
reading_of names.Size = readings.Number
reading_of names.Power = readings.PowerState
reading_of names.ReferenceLength = readings.Number
reading_of names.AuxiliaryCount = readings.Number
reading_of names.AuxiliaryLength = readings.Number
reading_of names.ErrorReason = readings.ErrorReason
reading_of names.CarrierFormat = readings.Format
reading_of names.Version = readings.Version
reading_of names.Collision = readings.Number
reading_of names.CarrierKindLength = readings.Number
reading_of names.Kind = readings.Quoted
reading_of names.Id = readings.Quoted
reading_of names.Language = readings.Quoted
reading_of names.Text = readings.Text
reading_of names.UriRest = readings.Quoted
reading_of names.MediaType = readings.Quoted
reading_of names.Reference = readings.Quoted
reading_of names.Auxiliary = readings.Quoted
reading_of names.CarrierKind = readings.Quoted
reading_of _ = readings.Octets

-- a word, if the flag holds
abbrev pub said : Bool → Text → Text
said true word = word
said false word = []

-- NDEF 1.0, record layout: the flags of a header octet
abbrev pub flags_text : ℕ → Text
flags_text header =
    said (is_set 7 header) (codes " MB") ++ said (is_set 6 header) (codes " ME") ++ said (is_set 5 header) (codes " CF")
    ++ said (is_set 4 header) (codes " SR") ++ said (is_set 3 header) (codes " IL")

-- NDEF 1.0, TNF: the type name format of a header octet
abbrev pub tnf_meaning : ℕ → Text
tnf_meaning header = codes " TNF " ++ decimal (tnf_number header) ++ codes " " ++ word_of tnf_words (tnf_number header)

-- NDEF 1.0, PAYLOAD_LENGTH, and RTD Smart Poster 1.0, size: four octets, most significant first; Connection Handover
-- 1.2, random number: two; else one octet
abbrev pub octets_number : List ℕ → ℕ
octets_number (a ∷ b ∷ c ∷ d ∷ []) = from_be_bytes w32 (a ∷ b ∷ c ∷ d ∷ [])
octets_number (a ∷ b ∷ []) = from_be_bytes w16 (a ∷ b ∷ [])
octets_number octets = slice_index octets 0

-- NDEF 1.0, SR: the number of octets of PAYLOAD_LENGTH in a record with this header octet
abbrev pub payload_length_width : (header : ℕ) → ℕ
payload_length_width header = if is_set 4 header then 1 else 4

-- the number of octets of a number of this name, in a record with this header octet
abbrev pub whole_length : FieldName → (header : ℕ) → ℕ
whole_length names.PayloadLength header = payload_length_width header
whole_length names.Size header = 4
whole_length names.Collision header = 2
whole_length _ header = 1

-- NDEF 1.0, record layout: the same of a field of these bytes; PAYLOAD_LENGTH is two octets after the header octet
abbrev pub whole_of : (bytes : List ℕ) → Field → ℕ
whole_of bytes field = whole_length field.name (slice_index bytes (field.at - 2))

-- a number is cut: the number of its octets that are there
abbrev pub cut_text : (count whole : ℕ) → Text
cut_text count whole = codes " cut after " ++ decimal count ++ codes " of " ++ decimal whole ++ codes " octets"

-- a number of `whole` octets, or the number of those that are there
abbrev pub number_text : (whole : ℕ) → List ℕ → Text
number_text whole octets = if nat_lt (length octets) whole then cut_text (length octets) whole
    else codes " " ++ decimal (octets_number octets)

-- Connection Handover 1.2, version octet: the major and the minor version
abbrev pub version_text : ℕ → Text
version_text octet = codes " " ++ decimal (octet / 16) ++ codes "." ++ decimal (octet % 16)

-- RTD Text 1.0, status octet: the encoding, and the length of the language code
abbrev pub status_text : ℕ → Text
status_text status =
    (if nat_le 128 status then codes " UTF-16" else codes " UTF-8") ++ codes ", language code of "
    ++ decimal (status % 64)

-- what octets say that are read so, of a field of the whole length
abbrev pub meaning_of : FieldReading → Wording → (whole : ℕ) → List ℕ → Text
meaning_of readings.Header wording whole octets =
    flags_text (slice_index octets 0) ++ tnf_meaning (slice_index octets 0)
meaning_of readings.Number wording whole octets = number_text whole octets
meaning_of readings.Prefix wording whole octets =
    code_text (slice_index octets 0) (prefix_word (slice_index octets 0))
meaning_of readings.Action wording whole octets =
    code_text (slice_index octets 0) (word_of action_words (slice_index octets 0))
meaning_of readings.ErrorReason wording whole octets =
    code_text (slice_index octets 0) (word_of error_words (slice_index octets 0))
meaning_of readings.PowerState wording whole octets = power_text (slice_index octets 0)
meaning_of readings.Format wording whole octets = format_text (slice_index octets 0)
meaning_of readings.Version wording whole octets = version_text (slice_index octets 0)
meaning_of readings.Quoted wording whole octets = codes " " ++ worded wording.shown.utf8 octets
meaning_of readings.Text wording whole octets =
    codes " " ++ worded wording.shown.utf8 (text_in_utf8 wording.encoding octets)
meaning_of readings.Status wording whole octets = status_text (slice_index octets 0)
meaning_of readings.Octets wording whole octets = []
