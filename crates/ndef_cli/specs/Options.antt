-- The values of the options of a command line.
use Rattle.std.specs.Prelude.{ℕ, Bool, false, List, [], ◌∷◌, Option, Some, None, codes, if◌then◌else◌}
use Rattle.std.specs.Option.{option_map_or}
use Rattle.std.specs.Str.{bytes_eq}
use Rattle.std.specs.Str.Parse.{digits_value, without_leading_plus}
use Rattle.clap.specs.ValueTests.{accepts}
use Rattle.clap.specs.Words.{Kinds, Row, Text, first_of}
use Rattle.clap.specs.declared.builder.value_parser.ValueParser.TheVariants as vp

-- whether the flag is set
abbrev pub flag_of : Text → List Row → Bool
flag_of id rows = option_map_or (λ t. bytes_eq t (codes "true")) (first_of id rows) false

-- whether the flag for hexadecimal text is set
abbrev pub hex_of : List Row → Bool
hex_of rows = flag_of (codes "hex") rows

-- the number that a text of decimal digits denotes, if it is below 2^32
abbrev pub number_in : Text → Option ℕ
number_in t =
    if accepts false (vp.Unsigned 0 4294967295) t then Some (digits_value 10 (without_leading_plus t))
    else None

-- nothing, where clap finds a fault
abbrev pub unless_fault : {X : Type 0} → Kinds → Option X → Option X
unless_fault [] o = o
unless_fault (k ∷ ks) o = None
