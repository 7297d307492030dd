-- The output, part by part: lines, and JSON (RFC 8259); `compact_text` is the text of a value, without spaces.
use Rattle.std.specs.Prelude.{Bool, true, false, ℕ, List, [], ◌∷◌, ◌++◌, codes}
use Rattle.std.specs.List.{fold}
use Rattle.json.specs.Print.{quoted}
use Rattle.ndef_cli.specs.Quoting.{Text}
use Rattle.serde_json.specs.Data.{Data, Items, Members, item, member, no_items, no_members, number, array, object, unsigned}
use Rattle.serde_json.specs.Written.{comma_if, compact_text}
use Rattle.ndef_cli_explain.specs.Forms.{Form, lines, objects}
use Rattle.ndef_cli_explain.specs.declared.output.Output.{Output}

-- ---- values

-- a member of an object: its name, and its value
abbrev pub Pair : Type 0
Pair = Text × Data

-- a number
abbrev pub number_value : ℕ → Data
number_value n = number (unsigned n)

-- the values of an array
abbrev pub items_of : List Data → Items
items_of [] = no_items
items_of (value ∷ values) = item value (items_of values)

-- the members of an object
abbrev pub pair_members : List Pair → Members
pair_members [] = no_members
pair_members ((name, value) ∷ pairs) = member name value (pair_members pairs)

-- an array of these values
unfoldable pub array_of : List Data → Data
array_of values = array (items_of values)

-- an object with these members
unfoldable pub object_of : List Pair → Data
object_of pairs = object (pair_members pairs)

-- an object in a line
unfoldable pub json_line : Data → Text
json_line value = compact_text value ++ codes "\n"

-- ---- parts of values

-- RFC 8259, objects and arrays: a comma where one is due, and this text; whether a comma is due after it
abbrev pub next_text : Output → Text → (later : Bool) → Output
next_text out text later = record out { text = out.text ++ (comma_if out.later ++ text); later = later }

-- a value
unfoldable pub with_value : Output → Data → Output
with_value out value = next_text out (compact_text value) true

-- a member of an object
unfoldable pub with_pair : Output → Pair → Output
with_pair out pair = next_text out (quoted pair.0 ++ 58 ∷ compact_text pair.1) true

-- the name of a member
unfoldable pub with_name : Output → (name : Text) → Output
with_name out name = next_text out (quoted name ++ 58 ∷ []) false

-- the beginning of an object or of an array
unfoldable pub with_begin : Output → (bracket : Text) → Output
with_begin out bracket = next_text out bracket false

-- the end of one
unfoldable pub with_end : Output → (bracket : Text) → Output
with_end out bracket = record out { text = out.text ++ bracket; later = true }

-- the beginning of the object of a line
unfoldable pub with_line : Output → Output
with_line out = record out { text = out.text ++ codes "{"; later = false }

-- members
abbrev pub with_pairs : Output → List Pair → Output
with_pairs out pairs = fold with_pair out pairs

-- values
abbrev pub with_values : Output → List Data → Output
with_values out values = fold with_value out values

-- ---- either form

-- lines
unfoldable pub with_text : Output → Text → Output
with_text out text = record out { text = out.text ++ text }

-- these lines, or these values of an array
abbrev pub with_either : Form → Output → Text → List Data → Output
with_either (lines shown) out text values = with_text out text
with_either (objects file) out text values = with_values out values
