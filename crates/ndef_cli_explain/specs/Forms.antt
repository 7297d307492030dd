-- The two forms in which an input is explained.
use Rattle.std.specs.Prelude.{◌&&◌, not, Bool, true, false, Option, Some, None, option_map}
use Rattle.std.specs.Borrow.{Bor}
use Rattle.ndef_cli.specs.Quoting.{Text}
use Rattle.ndef_cli_explain.specs.Shell.{Origin, origin_of}
use Rattle.ndef_cli_explain.specs.declared.style.Look.{Look}
use Rattle.ndef_cli_explain.specs.declared.style.Shown.{Shown}
use Rattle.ndef_cli_explain.specs.declared.style.Style.{Style}
use Rattle.ndef_cli_explain.specs.declared.style.Style.TheVariants.{Lines, Objects}

-- lines, with what they print of octets; or an object in JSON in a line for each message, with the name of the input
-- where inputs are named
pub data Form : Type 0 where
  lines : Shown → Form
  objects : (file : Option Text) → Form

-- the name of an input, if inputs are named
abbrev pub name_of : Option (Bor Text) → Option Text
name_of file = option_map (λ name. name.now) file

-- the form of a value of the program
abbrev pub style_form : Style → Form
style_form (Lines shown) = lines shown
style_form (Objects file) = objects (name_of file)

-- how an input is explained: in this form, in colour or not, and where it comes from
pub record LookValues : Type 0 where
  pub form : Form
  pub in_color : Bool
  pub origin : Origin

-- the values of a value of the program
abbrev pub look_values : Look → LookValues
look_values look =
    record { form = style_form look.style; in_color = look.in_color; origin = origin_of look.source }

-- octets as their digits, and what they mean in ASCII
abbrev pub plain : Shown
plain = record { utf8 = false; characters = false }

-- what is printed of octets
abbrev pub shown_by : Form → Shown
shown_by (lines shown) = shown
shown_by (objects file) = plain

-- the name, where inputs are named
abbrev pub file_of : (named : Bool) → (name : Text) → Option Text
file_of true name = Some name
file_of false name = None

-- the form for an input of this name
abbrev pub form_in : (json : Bool) → Shown → (named : Bool) → (name : Text) → Form
form_in false shown named name = lines shown
form_in true shown named name = objects (file_of named name)

-- lines may be in colour, and objects are not
abbrev pub paints : (json in_color : Bool) → Bool
paints json in_color = not json && in_color
