-- The output for a refusal, and for a record that is refused.
use Rattle.std.specs.Prelude.{◌≡◌, ◌==◌, ℕ, ◌+◌, ◌<◌, ◌≤◌, Bool, false, List, [], ◌∷◌, ◌++◌, Option, Some, None, codes, decimal, length, slice_index, take, if◌then◌else◌}
use Rattle.hex.specs.Hex.{encode_lower}
use Rattle.ndef_diagnostics.specs.Expectations.{IsExpected}
use Rattle.ndef_diagnostics.specs.Wordings.{expected_text}
use Rattle.ndef_fields.specs.Lasts.{IsFieldOfLast}
use Rattle.ndef_fields.specs.Names.{name_text}
use Rattle.ndef_fields.specs.declared.field.Field.{Field}
use Rattle.ndef_format.specs.Reasons.{reason_name, reason_number}
use Rattle.ndef_format.specs.declared.refusal.Refusal.{Refusal}
use Rattle.ndef_cli.specs.Quoting.{Text}
use Rattle.serde_json.specs.Data.{Data, string}
use Rattle.ndef_cli_explain.specs.Advice.{hint_line, hint_pairs}
use Rattle.ndef_cli_explain.specs.Cells.{cells, column_of, place_text, start_of}
use Rattle.ndef_cli_explain.specs.Fields.{field_texts}
use Rattle.ndef_cli_explain.specs.Forms.{Form, lines, objects}
use Rattle.ndef_cli_explain.specs.Messages.{file_pairs, follows_pair, front_pairs}
use Rattle.ndef_cli_explain.specs.Outputs.{Pair, json_line, number_value, object_of}
use Rattle.ndef_cli_explain.specs.Wordings.{first_wording}
use Rattle.ndef_cli_explain.specs.declared.advice.Advice.{Advice}
use Rattle.ndef_cli_explain.specs.declared.recovery_place.Recovery.{Recovery}
use Rattle.ndef_cli_explain.specs.declared.said_refusal.RefusedByte.{RefusedByte}
use Rattle.ndef_cli_explain.specs.declared.said_refusal.SaidRefusal.{SaidRefusal}
use Rattle.ndef_cli_explain.specs.declared.style.Shown.{Shown}

-- the refused byte and its field, by the bytes that are read; its octet, as it is in the input; none if the input ends
-- before it
abbrev pub IsShownByte : (read bytes : List ℕ) → Refusal → Option RefusedByte → Type 0
IsShownByte read bytes refusal None = length read ≤ refusal.at
IsShownByte read bytes refusal (Some byte) =
    (refusal.at < length read) × IsFieldOfLast (take (refusal.at + 1) read) byte.field
    × (byte.octet ≡ slice_index bytes refusal.at)

-- the description of a refusal: the refused byte, the expectation, and this hint with what goes with it
pub record IsSaid (read bytes : List ℕ) (refusal : Refusal) (advice : Option Advice) (said : SaidRefusal) : Type 0 where
  pub refusal_is : said.refusal ≡ refusal
  pub byte : IsShownByte read bytes refusal said.byte
  pub expected : IsExpected read refusal said.expected
  pub advice_is : said.advice ≡ advice

-- ---- lines

-- the line of a refused byte, if there is one: its place, the byte itself, its character if that is requested, and its
-- field
abbrev pub byte_text : (characters : Bool) → (at : ℕ) → Refusal → Option RefusedByte → Text
byte_text characters at refusal None = []
byte_text characters at refusal (Some byte) =
    start_of (at + refusal.at) byte.field.depth ++ cells (byte.octet ∷ []) ++ codes "^ "
    ++ column_of characters (byte.octet ∷ []) ++ name_text byte.field.name ++ codes "\n"

-- the line of a refusal, as `ndef check` prints it but for its place in hexadecimal digits, and a sentence
abbrev pub reason_lines : (at : ℕ) → Refusal → (sentence : Text) → Text
reason_lines at refusal sentence =
    codes "refused at " ++ decimal (at + refusal.at) ++ codes " (0x" ++ place_text (at + refusal.at) ++ codes "): "
    ++ decimal (reason_number refusal.reason) ++ codes " "
    ++ reason_name refusal.reason ++ codes "\n" ++ sentence ++ codes "\n"

-- the lines of a refusal: those of the fields before the refused byte, and the description
abbrev pub refused_lines : Shown → (at : ℕ) (front : List ℕ) → List Field → SaidRefusal → Text
refused_lines shown at front before said =
    field_texts (first_wording shown false) at front before ++ (byte_text shown.characters at said.refusal said.byte
    ++ (reason_lines at said.refusal (expected_text said.refusal.reason said.expected) ++ hint_line said.advice))

-- ---- objects

-- how deep the field of a refused byte lies, and its name
abbrev pub place_pairs : Option RefusedByte → List Pair
place_pairs None = []
place_pairs (Some byte) =
    (codes "depth", number_value byte.field.depth) ∷ (codes "field", string (name_text byte.field.name)) ∷ []

-- a refused byte, in hexadecimal digits
abbrev pub octet_pairs : Option RefusedByte → List Pair
octet_pairs None = []
octet_pairs (Some byte) = (codes "octet", string (encode_lower (byte.octet ∷ []))) ∷ []

-- a refusal: its place in the input, the refused byte, the reason by name and number, and the sentence for it
abbrev pub refusal_object : (at : ℕ) → SaidRefusal → Data
refusal_object at said =
    object_of ((codes "at", number_value (at + said.refusal.at)) ∷ (place_pairs said.byte
    ++ (codes "name", string (reason_name said.refusal.reason)) ∷ (octet_pairs said.byte
    ++ (codes "reason", number_value (reason_number said.refusal.reason))
    ∷ (codes "sentence", string (expected_text said.refusal.reason said.expected)) ∷ [])))

-- the number of the record after which this is, where there is one
abbrev pub follows_pairs : Recovery → List Pair
follows_pairs from = if from.records == 0 then [] else follows_pair from ∷ []

-- the object of a refusal: its place, the fields before the refused byte, the record that it follows, the hint, the
-- number that a message would have, and the description
abbrev pub refused_object : Option Text → Recovery → (front : List ℕ) → List Field → SaidRefusal → Data
refused_object file from front before said =
    object_of (front_pairs false file from.at front before ++ (follows_pairs from ++ (hint_pairs said.advice
    ++ (codes "message", number_value from.message) ∷ (codes "refused", refusal_object from.at said) ∷ [])))

-- ---- either form

-- the output for a refusal: its lines, or its object
abbrev pub refused_text : Form → Recovery → (front : List ℕ) → List Field → SaidRefusal → Text
refused_text (lines shown) from front before said = refused_lines shown from.at front before said
refused_text (objects file) from front before said = json_line (refused_object file from front before said)

-- the line of a refused record past which the input is read on
abbrev pub goes_on_line : (number place : ℕ) → Text
goes_on_line number place =
    codes "record " ++ decimal number ++ codes " goes on to byte " ++ decimal place ++ codes "\n"

-- the object of a refused record past which the input is read on: its end, its message and its number
abbrev pub goes_on_object : Option Text → (end message number : ℕ) → Data
goes_on_object file end message number =
    object_of ((codes "end", number_value end) ∷ (file_pairs file
    ++ (codes "message", number_value message) ∷ (codes "record", number_value number) ∷ []))

-- the output for it: its line, or its object
abbrev pub goes_on_text : Form → Recovery → (before end : ℕ) → Text
goes_on_text (lines shown) from before end = goes_on_line (from.records + before + 1) (from.at + end)
goes_on_text (objects file) from before end =
    json_line (goes_on_object file (from.at + end) from.message (from.records + before + 1))

-- the same, where its end is known
abbrev pub goes_on_where : Form → Recovery → (before : ℕ) → (end : Option ℕ) → Text
goes_on_where form from before None = []
goes_on_where form from before (Some end) = goes_on_text form from before end

-- the last line: the number of sound records, and that of all
abbrev pub sound_line : (sound all : ℕ) → Text
sound_line sound all =
    codes "records sound: " ++ decimal sound ++ codes " of " ++ decimal all ++ codes "\n"

-- the last object: the number of all records, and that of the sound ones
abbrev pub sound_object : Option Text → (all sound : ℕ) → Data
sound_object file all sound =
    object_of ((codes "counted", number_value all) ∷ (file_pairs file ++ (codes "sound", number_value sound) ∷ []))

-- the end of the output
abbrev pub sound_text : Form → Recovery → Text
sound_text (lines shown) last = sound_line last.sound (last.sound + last.refused)
sound_text (objects file) last = json_line (sound_object file (last.sound + last.refused) last.sound)
