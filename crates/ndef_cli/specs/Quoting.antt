-- Bytes between quotation marks.
use Rattle.std.specs.Prelude.{◌==◌, ◌&&◌, not, nat_le, Bool, ℕ, List, [], ◌∷◌, ◌++◌, codes, if◌then◌else◌}
use Rattle.std.specs.List.{flat_map}
use Rattle.hex.specs.Hex.{encode_lower}

-- the output, in bytes
abbrev pub Text : Type 0
Text = List ℕ

-- printable ASCII, but for the quotation mark and the backslash
abbrev pub is_plain_octet : ℕ → Bool
is_plain_octet byte =
    nat_le 0x20 byte && nat_le byte 0x7e && not (byte == 0x22) && not (byte == 0x5c)

-- such a byte as it is; any other as a backslash, an x and two lower-case hexadecimal digits
abbrev pub quoted_byte : ℕ → Text
quoted_byte byte =
    if is_plain_octet byte then byte ∷ [] else codes "\\x" ++ encode_lower (byte ∷ [])

-- the bytes in the form that they have between quotation marks
abbrev pub quoted_bytes : List ℕ → Text
quoted_bytes bytes = flat_map quoted_byte bytes

-- the bytes between quotation marks
abbrev pub quoted : List ℕ → Text
quoted bytes = codes "\"" ++ quoted_bytes bytes ++ codes "\""
