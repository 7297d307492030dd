-- The lines and the objects of fields. The members of an object are in the order of their names.
use Rattle.std.specs.Prelude.{ℕ, ◌+◌, ◌<◌, ◌^◌, Bool, ⊤, List, [], ◌∷◌, ◌++◌, Option, Some, None, codes, drop, take}
use Rattle.hex.specs.Hex.{encode_lower}
use Rattle.ndef_diagnostics.specs.Remarks.{remark_text}
use Rattle.ndef_diagnostics.specs.declared.remark.Remark.{Remark}
use Rattle.ndef_fields.specs.Names.{name_text}
use Rattle.ndef_fields.specs.declared.field.Field.{Field}
use Rattle.ndef_cli.specs.Quoting.{Text}
use Rattle.serde_json.specs.Data.{Data, string}
use Rattle.ndef_cli_explain.specs.Advice.{remark_line, said_remark}
use Rattle.ndef_cli_explain.specs.Cells.{cells, column_of, later_rows, start_of}
use Rattle.ndef_cli_explain.specs.Forms.{Form, plain}
use Rattle.ndef_cli_explain.specs.Meanings.{meaning_of, reading_of, whole_of}
use Rattle.ndef_cli_explain.specs.Outputs.{Pair, array_of, number_value, object_of, with_either}
use Rattle.ndef_cli_explain.specs.Wordings.{first_wording, wording_after}
use Rattle.ndef_cli_explain.specs.declared.output.Output.{Output}
use Rattle.ndef_cli_explain.specs.declared.wording.Wording.{Wording}

-- the octets of a field of these bytes
abbrev pub octets_of : List ℕ → Field → List ℕ
octets_of bytes field = take field.length (drop field.at bytes)

-- the places of fields of an input can be counted
abbrev pub PlacesFit : (at : ℕ) → List Field → Type 0
PlacesFit at [] = ⊤
PlacesFit at (field ∷ fields) = (at + field.at < 2 ^ 64) × PlacesFit at fields

-- ---- lines

-- the place of a field, its first eight octets, their characters if that is requested, and its name
abbrev pub front_text : (characters : Bool) → (at : ℕ) → Field → (octets : List ℕ) → Text
front_text characters at field octets =
    start_of (at + field.at) field.depth ++ cells (take 8 octets) ++ codes "  " ++ column_of characters (take 8 octets)
    ++ name_text field.name

-- the meaning of the octets of a field, where a number has `whole` of them, and the octets after the first eight
abbrev pub back_text : Wording → (whole : ℕ) → Field → (octets : List ℕ) → Text
back_text wording whole field octets =
    meaning_of (reading_of field.name) wording whole octets
    ++ later_rows wording.shown.characters field.depth 0 (drop 8 octets) ++ codes "\n"

-- the lines of a field, and of the warning about it, if warnings are printed; a number has `whole` octets
abbrev pub field_text : Wording → (at : ℕ) → Field → (whole : ℕ) → (octets : List ℕ) → Text
field_text wording at field whole octets =
    front_text wording.shown.characters at field octets ++ back_text wording whole field octets
    ++ remark_line (said_remark wording.remarks field.name octets)

-- the lines of fields of these bytes that follow one another; each may say how the next text is encoded
abbrev pub field_texts : Wording → (at : ℕ) (bytes : List ℕ) → List Field → Text
field_texts wording at bytes [] = []
field_texts wording at bytes (field ∷ fields) =
    field_text wording at field (whole_of bytes field) (octets_of bytes field)
    ++ field_texts (wording_after wording field.name (octets_of bytes field)) at bytes fields

-- ---- objects

-- the meaning of the octets of a field, as in its line but for the blank before it, if they have one
abbrev pub meaning_pairs : Text → List Pair
meaning_pairs [] = []
meaning_pairs (blank ∷ meaning) = (codes "meaning", string meaning) ∷ []

-- a remark, if there is one
abbrev pub remark_pairs : Option Remark → List Pair
remark_pairs None = []
remark_pairs (Some remark) = (codes "remark", string (remark_text remark)) ∷ []

-- a field of an input: its place there, its depth, its meaning, its name, its octets in hexadecimal digits, and
-- the warning about it; a number has `whole` octets
abbrev pub field_pairs : Wording → (at : ℕ) → Field → (whole : ℕ) → (octets : List ℕ) → List Pair
field_pairs wording at field whole octets =
    (codes "at", number_value (at + field.at)) ∷ (codes "depth", number_value field.depth)
    ∷ (codes "length", number_value field.length)
    ∷ (meaning_pairs (meaning_of (reading_of field.name) wording whole octets)
    ++ (codes "name", string (name_text field.name)) ∷ (codes "octets", string (encode_lower octets))
    ∷ remark_pairs (said_remark wording.remarks field.name octets))

-- the object of a field
abbrev pub field_object : Wording → (at : ℕ) → Field → (whole : ℕ) → (octets : List ℕ) → Data
field_object wording at field whole octets = object_of (field_pairs wording at field whole octets)

-- the objects of fields of these bytes that follow one another; each may say how the next text is encoded
abbrev pub field_objects : Wording → (at : ℕ) (bytes : List ℕ) → List Field → List Data
field_objects wording at bytes [] = []
field_objects wording at bytes (field ∷ fields) =
    field_object wording at field (whole_of bytes field) (octets_of bytes field)
    ∷ field_objects (wording_after wording field.name (octets_of bytes field)) at bytes fields

-- the fields of these bytes; their meaning is in ASCII, and warnings about them are printed or not
abbrev pub fields_array : (remarks : Bool) (at : ℕ) (bytes : List ℕ) → List Field → Data
fields_array remarks at bytes fields = array_of (field_objects (first_wording plain remarks) at bytes fields)

-- ---- either form

-- the lines of these fields, or their objects
abbrev pub with_fields : Form → Output → Wording → (at : ℕ) (bytes : List ℕ) → List Field → Output
with_fields form out first at bytes fields =
    with_either form out (field_texts first at bytes fields) (field_objects first at bytes fields)
