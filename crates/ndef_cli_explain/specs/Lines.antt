-- Lines of a text.
use Rattle.std.specs.Prelude.{◌==◌, List}
use Rattle.std.specs.List.{slice_split}
use Rattle.ndef_cli.specs.Quoting.{Text}

-- the lines of a text
abbrev pub lines_of : Text → List Text
lines_of text = slice_split (λ byte. byte == 10) text
