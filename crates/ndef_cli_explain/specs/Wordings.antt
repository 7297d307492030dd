-- The wording of the octets of texts.
use Rattle.std.specs.Prelude.{ℕ, ◌==◌, ◌&&◌, not, nat_le, nat_lt, Bool, true, false, List, [], ◌∷◌, ◌++◌, codes, chars, encode_utf8_all, slice_index, if◌then◌else◌}
use Rattle.std.specs.Char.Utf16.{utf16_lossy_chars}
use Rattle.std.specs.Int.{w16, from_be_bytes}
use Rattle.std.specs.List.{flat_map}
use Rattle.std.specs.Str.{is_utf8}
use Rattle.ndef_fields.specs.declared.name.FieldName.{FieldName}
use Rattle.ndef_fields.specs.declared.name.FieldName.TheVariants as names
use Rattle.ndef_cli.specs.Quoting.{Text, is_plain_octet, quoted, quoted_bytes}
use Rattle.ucd_category.specs.GeneralCategory.{general_category}
use Rattle.ucd_category.specs.GeneralCategoryGroup.{in_group}
use Rattle.ucd_category.specs.declared.GeneralCategoryGroup.TheVariants as group
use Rattle.ndef_cli_explain.specs.declared.style.Shown.{Shown}
use Rattle.ndef_cli_explain.specs.declared.wording.TextEncoding.{TextEncoding}
use Rattle.ndef_cli_explain.specs.declared.wording.TextEncoding.TheVariants as encodings
use Rattle.ndef_cli_explain.specs.declared.wording.Wording.{Wording}

-- ---- the encoding of a text

-- RTD Text 1.0, status octet: bit 7 means UTF-16; RFC 2781, section 4.3: it is big-endian without a byte order mark
abbrev pub encoding_by_status : ℕ → TextEncoding
encoding_by_status status = if nat_le 128 status then encodings.BigEndian else encodings.Utf8

-- RFC 2781, section 3.2: a byte order mark that begins with FF is little-endian
abbrev pub encoding_by_mark : ℕ → TextEncoding
encoding_by_mark octet = if octet == 0xff then encodings.LittleEndian else encodings.BigEndian

-- RTD Text 1.0: the encoding of a text after a field of this name with these octets
abbrev pub encoding_after : TextEncoding → FieldName → (octets : List ℕ) → TextEncoding
encoding_after encoding names.Status octets = encoding_by_status (slice_index octets 0)
encoding_after encoding names.Mark octets = encoding_by_mark (slice_index octets 0)
encoding_after encoding _ octets = encoding

-- before the first field, with what is printed of octets, and with warnings or without
abbrev pub first_wording : Shown → (remarks : Bool) → Wording
first_wording shown remarks = record { shown = shown; remarks = remarks; encoding = encodings.Utf8 }

-- after a field of this name with these octets
abbrev pub wording_after : Wording → FieldName → (octets : List ℕ) → Wording
wording_after wording name octets = record {
  shown = wording.shown;
  remarks = wording.remarks;
  encoding = encoding_after wording.encoding name octets;
}

-- ---- the characters of a text

-- RFC 2781, section 4: a unit of two octets
abbrev pub unit_of : (little : Bool) (a b : ℕ) → ℕ
unit_of true a b = from_be_bytes w16 (b ∷ a ∷ [])
unit_of false a b = from_be_bytes w16 (a ∷ b ∷ [])

-- RFC 2781, section 4: the units of a text; a last octet without another is none
abbrev pub units_in : (little : Bool) → List ℕ → List ℕ
units_in little [] = []
units_in little (a ∷ []) = []
units_in little (a ∷ b ∷ octets) = unit_of little a b ∷ units_in little octets

-- RFC 2781, section 2.2: a text of UTF-16 in UTF-8, with U+FFFD for each half of a surrogate pair that is alone
abbrev pub from_wide : (little : Bool) → List ℕ → List ℕ
from_wide little octets = encode_utf8_all (utf16_lossy_chars (units_in little octets))

-- the same of a text in this encoding
abbrev pub text_in_utf8 : TextEncoding → List ℕ → List ℕ
text_in_utf8 encodings.Utf8 octets = octets
text_in_utf8 encodings.BigEndian octets = from_wide false octets
text_in_utf8 encodings.LittleEndian octets = from_wide true octets

-- ---- between quotation marks

-- Unicode, General_Category: no control, no mark of direction or other format character, no separator, and assigned; of
-- ASCII printable characters but for the quotation mark and the backslash
abbrev pub is_printable : ℕ → Bool
is_printable c = if nat_lt c 128 then is_plain_octet c
    else not (in_group group.Other (general_category c)) && not (in_group group.Separator (general_category c))

-- a character that is printable as itself, the octets of any other in UTF-8 as without the option
abbrev pub worded_char : ℕ → Text
worded_char c = if is_printable c then encode_utf8_all (c ∷ []) else quoted_bytes (encode_utf8_all (c ∷ []))

-- octets of UTF-8 between quotation marks
abbrev pub worded_utf8 : List ℕ → Text
worded_utf8 octets = codes "\"" ++ flat_map worded_char (chars octets) ++ codes "\""

-- octets between quotation marks; printable characters as themselves if that is requested and all is UTF-8
abbrev pub worded : (utf8 : Bool) → List ℕ → Text
worded utf8 octets = if utf8 && is_utf8 octets then worded_utf8 octets else quoted octets
