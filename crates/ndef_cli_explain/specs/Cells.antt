-- Octets in hexadecimal digits, and as characters.
use Rattle.std.specs.Prelude.{ℕ, ◌+◌, ◌*◌, ◌-◌, ◌^◌, ◌%◌, ◌==◌, ◌&&◌, nat_le, Bool, true, false, List, [], ◌∷◌, ◌++◌, codes, length, take, if◌then◌else◌}
use Rattle.std.specs.Int.{w32, to_be_bytes}
use Rattle.std.specs.List.{flat_map}
use Rattle.hex.specs.Hex.{encode_lower}
use Rattle.ndef_cli.specs.Quoting.{Text}

-- a place in eight digits
abbrev pub place_text : ℕ → Text
place_text place = encode_lower (to_be_bytes w32 (place % 2 ^ 32))

-- the indentation of a depth
abbrev pub indentation : ℕ → Text
indentation depth = if depth == 0 then codes " " else codes "   "

-- a place, and the indentation of a depth
abbrev pub start_of : (place depth : ℕ) → Text
start_of place depth = place_text place ++ indentation depth

-- an octet with a blank before it
abbrev pub cell : ℕ → Text
cell octet = codes " " ++ encode_lower (octet ∷ [])

-- the octets of a line, and blanks up to the eighth
abbrev pub cells : List ℕ → Text
cells octets = flat_map cell octets ++ take (24 - 3 * length octets) (codes "                        ")

-- the beginning of a further line of a field: blanks in place of its place, and the indentation of a depth
abbrev pub later_start : (depth : ℕ) → Text
later_start depth = codes "\n        " ++ indentation depth

-- an octet of printable ASCII, and a dot for any other
abbrev pub character : ℕ → Text
character octet = if nat_le 0x20 octet && nat_le octet 0x7e then octet ∷ [] else codes "."

-- the characters of octets between bars
abbrev pub barred : List ℕ → Text
barred octets = codes "|" ++ flat_map character octets ++ codes "|"

-- the column of characters, if it is requested, and blanks up to the next column
abbrev pub column_of : (characters : Bool) → List ℕ → Text
column_of false octets = []
column_of true octets = barred octets ++ take (10 - length octets) (codes "          ")

-- the octets of a further line, and their characters if that is requested
abbrev pub later_row : (characters : Bool) → List ℕ → Text
later_row false octets = flat_map cell octets
later_row true octets = cells octets ++ codes "  " ++ barred octets

-- the octets after the first line, eight in a line, from this column on
abbrev pub later_rows : (characters : Bool) → (depth column : ℕ) → List ℕ → Text
later_rows characters depth column [] = []
later_rows characters depth column (octet ∷ octets) =
    (if column == 0 then later_start depth ++ later_row characters (take 8 (octet ∷ octets)) else [])
    ++ later_rows characters depth ((column + 1) % 8) octets
