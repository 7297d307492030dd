-- Remarks about the payload of a text.
use Rattle.std.specs.Prelude.{ℕ, ◌==◌, ◌&&◌, ◌||◌, if◌then◌else◌, not, Bool, true, false, Option, Some, None, List, [], ◌∷◌, drop}
use Rattle.ndef_format.specs.Texts.{code_length, is_wide}
use Rattle.ndef_diagnostics.specs.declared.remark.Remark.{Remark}
use Rattle.ndef_diagnostics.specs.declared.remark.Remark.TheVariants.{LittleEndian}

-- RFC 2781, section 3.2: the octets begin with a byte order mark
abbrev pub is_marked : List ℕ → Bool
is_marked (a ∷ b ∷ s) = (a == 0xfe && b == 0xff) || (a == 0xff && b == 0xfe)
is_marked s = false

-- RFC 2781, section 3.1: pairs of which the second octet is 0, as letters of ASCII are in little-endian order
abbrev pub is_swapped : List ℕ → Bool
is_swapped [] = true
is_swapped (a ∷ []) = false
is_swapped (a ∷ b ∷ s) = b == 0 && is_swapped s

-- there are no octets
abbrev pub is_empty : List ℕ → Bool
is_empty [] = true
is_empty (b ∷ s) = false

-- RFC 2781, section 3.2: a text in UTF-16 without a mark, which is read as big-endian, is likely little-endian
abbrev pub unmarked_remark : (wide : Bool) → List ℕ → Option Remark
unmarked_remark wide s =
    if wide && not (is_empty s) && not (is_marked s) && is_swapped s then Some LittleEndian else None

-- RTD Text 1.0: a text after its status octet and its language code
abbrev pub text_remark : List ℕ → Option Remark
text_remark [] = None
text_remark (status ∷ s) = unmarked_remark (is_wide status) (drop (code_length status) s)
