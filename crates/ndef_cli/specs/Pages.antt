-- The pages about a program itself, for which its words may ask.
use Rattle.std.specs.Prelude.{List, [], ◌∷◌, Option, Some, None, codes, if◌then◌else◌}
use Rattle.std.specs.Str.{bytes_eq}
use Rattle.clap.specs.Words.{Text}
use Rattle.ndef_cli.specs.declared.pages.Page.{Page}
use Rattle.ndef_cli.specs.declared.pages.Page.TheVariants as page

-- the page of this name
abbrev pub page_named : Text → Option Page
page_named name = if bytes_eq name (codes "--help") then Some page.Help
    else (if bytes_eq name (codes "-h") then Some page.Help
    else (if bytes_eq name (codes "--version") then Some page.Version
    else (if bytes_eq name (codes "-V") then Some page.Version else None)))

-- the page for which the words ask, of which the first is the program's name
abbrev pub page_asked : List Text → Option Page
page_asked (program ∷ name ∷ []) = page_named name
page_asked _ = None
