-- Output in colour.
use Rattle.std.specs.Prelude.{◌==◌, ◌||◌, Bool, true, false, ◌++◌, codes, nat_eq, drop, take, map, slice_index, if◌then◌else◌}
use Rattle.std.specs.List.{join_with_byte, starts_with}
use Rattle.ndef_cli.specs.Quoting.{Text}
use Rattle.ndef_cli_explain.specs.Lines.{lines_of}
use Rattle.ndef_cli_explain.specs.declared.coloring.Ink.{Ink}
use Rattle.ndef_cli_explain.specs.declared.coloring.Ink.TheVariants as ink

-- the line begins with this word
abbrev pub line_begins : Text → Text → Bool
line_begins line word = starts_with nat_eq line word

-- the line of a message or of an input
abbrev pub is_heading : Text → Bool
is_heading line = line_begins line (codes "message ") || line_begins line (codes "file ")

-- the line of a refused byte has a caret after the octets, which end two columns later in a message within a payload
abbrev pub is_refused_byte : Text → Bool
is_refused_byte line = slice_index line 33 == 94 || slice_index line 35 == 94

-- the line of a refusal or a fault
abbrev pub is_fault_line : Text → Bool
is_fault_line line =
    line_begins line (codes "refused ") || line_begins line (codes "fault: ") || line_begins line (codes "hex: ")

-- the ink of a line
abbrev pub ink_of : Text → Ink
ink_of line = if is_heading line then ink.Bold
    else (if is_fault_line line then ink.Red
    else (if line_begins line (codes "0") then (if is_refused_byte line then ink.Red else ink.FaintPlace)
    else ink.Plain))

-- ECMA-48, select graphic rendition: a text in the rendition that these octets select, and the usual one after it
abbrev pub rendered : (opening : Text) → Text → Text
rendered opening text = opening ++ text ++ codes "\u{1b}[0m"

-- a line in its ink
abbrev pub colored_in : Ink → Text → Text
colored_in ink.Bold line = rendered (codes "\u{1b}[1m") line
colored_in ink.Red line = rendered (codes "\u{1b}[31m") line
colored_in ink.FaintPlace line = rendered (codes "\u{1b}[2m") (take 8 line) ++ drop 8 line
colored_in ink.Plain line = line

-- a line in colour
abbrev pub colored_line : Text → Text
colored_line line = colored_in (ink_of line) line

-- a text in colour
abbrev pub colored : Text → Text
colored text = join_with_byte 10 (map colored_line (lines_of text))

-- a text in colour, or as it is
abbrev pub shown_in : (in_color : Bool) → Text → Text
shown_in true text = colored text
shown_in false text = text
