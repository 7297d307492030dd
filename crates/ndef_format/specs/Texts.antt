-- The payloads of a text record (RTD Text 1.0), in UTF-8 or in UTF-16 (RFC 2781).
use Rattle.std.specs.Prelude.{ℕ, List, ◌/◌, ◌%◌, Bool, true, false, [], ◌∷◌, ◌≡◌, ◌&&◌, ◌==◌, if◌then◌else◌, ◌≤◌, nat_le, IsUtf8, ◌<◌}
use Rattle.std.specs.Char.Escape.{encode_utf16}
use Rattle.std.specs.List.{flat_map}
use Rattle.std.specs.Str.{all_scalars}
use Rattle.ndef_format.specs.Octets.{Octets}

-- ---- the texts

-- RFC 2781, section 2.1: the units of characters, one or a pair of surrogates for each
abbrev pub units_of : List ℕ → List ℕ
units_of cs = flat_map encode_utf16 cs

-- RFC 2781, section 3.1: the octets of a unit, little-endian or big-endian
abbrev pub unit_octets : (little : Bool) → ℕ → List ℕ
unit_octets true u = (u % 256) ∷ (u / 256) ∷ []
unit_octets false u = (u / 256) ∷ (u % 256) ∷ []

-- RFC 2781, section 3.1: the octets of units
abbrev pub spelled : (little : Bool) → List ℕ → List ℕ
spelled little us = flat_map (unit_octets little) us

-- the units are those of some characters
abbrev pub IsUnits : List ℕ → Type 0
IsUnits us = (cs : List ℕ) × ((all_scalars cs ≡ true) × (units_of cs ≡ us))

-- the octets are those of some characters
abbrev pub IsSpelled : (little : Bool) → List ℕ → Type 0
IsSpelled little s = (us : List ℕ) × (IsUnits us × (spelled little us ≡ s))

-- RFC 2781, section 3.2: whether the text is little-endian, and its octets without the mark;
-- without one it is big-endian
abbrev pub unmarked : List ℕ → Bool × List ℕ
unmarked (a ∷ b ∷ s) =
    if a == 0xfe && b == 0xff then (false, s)
    else (if a == 0xff && b == 0xfe then (true, s) else (false, a ∷ b ∷ s))
unmarked s = (false, s)

-- RTD Text 1.0, encoding: a text in UTF-16, in one of the three forms
abbrev pub IsUtf16 : List ℕ → Type 0
IsUtf16 s = IsSpelled (unmarked s).0 (unmarked s).1

-- ---- the payloads

-- RTD Text 1.0, status octet: bit 6 is reserved, and 0; that a reader refuses 1 is our choice
abbrev pub IsReservedSet : ℕ → Type 0
IsReservedSet status = 64 ≤ status % 128

-- RTD Text 1.0, status octet: bit 7 is set for UTF-16
abbrev pub is_wide : ℕ → Bool
is_wide status = nat_le 128 status

-- RTD Text 1.0, status octet: bits 5 to 0 give the length of the language code
abbrev pub code_length : ℕ → ℕ
code_length status = status % 64

-- RTD Text 1.0, language code: ASCII
abbrev pub IsCodeOctet : ℕ → Type 0
IsCodeOctet b = b ≤ 0x7f

-- RTD Text 1.0, text: in UTF-16 or in UTF-8
abbrev pub IsTextIn : (wide : Bool) → List ℕ → Type 0
IsTextIn true s = IsUtf16 s
IsTextIn false s = IsUtf8 s

-- RTD Text 1.0: a status octet, a language code and a text
abbrev pub IsText : List ℕ → Type 0
IsText [] = ⊥
IsText (status ∷ s) =
    (status < 256) × (IsReservedSet status → ⊥)
    × Octets IsCodeOctet (code_length status) (IsTextIn (is_wide status)) s
