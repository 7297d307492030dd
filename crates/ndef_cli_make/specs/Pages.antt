-- The pages about the program itself.
use Rattle.std.specs.Prelude.{Bool, true, false, List, [], ◌∷◌, drop, Option, Some, None, codes, option_and_then, option_map, unwrap_or, if◌then◌else◌}
use Rattle.std.specs.List.{find}
use Rattle.std.specs.Option.{option_map_or}
use Rattle.std.specs.Str.{bytes_eq}
use Rattle.clap.specs.Words.{Text}
use Rattle.ndef_cli.specs.Pages.{page_asked}
use Rattle.ndef_cli.specs.declared.pages.Page.{Page}
use Rattle.ndef_cli.specs.declared.pages.Page.TheVariants as of_program
use Rattle.ndef_cli_make.specs.Asked.{has_word, parts_of}
use Rattle.ndef_cli_make.specs.Editing.{edit_in, origin_in, record_of}
use Rattle.ndef_cli_make.specs.SizeChecks.{record_words}
use Rattle.ndef_cli_make.specs.Options.{subject_named}
use Rattle.ndef_cli_make.specs.declared.editing.Edit.{Edit}
use Rattle.ndef_cli_make.specs.declared.kind_pages.TheConstants.{APP, CARRIER, EXTERNAL, HANDOVER, MEDIA, POSTER, RECORD, TEXT, URI}
use Rattle.ndef_cli_make.specs.declared.options.Subject.{Subject}
use Rattle.ndef_cli_make.specs.declared.options.Subject.TheVariants as subject
use Rattle.ndef_cli_make.specs.declared.pages.TheConstants.{HELP, VERSION}
use Rattle.ndef_cli_make.specs.declared.pages.AskedPage.{AskedPage}
use Rattle.ndef_cli_make.specs.declared.pages.AskedPage.TheVariants as page

-- the page of a kind of record: its words, their ranges, and what holds without them
abbrev pub kind_page : Subject → Text
kind_page subject.Text = TEXT.now
kind_page subject.Uri = URI.now
kind_page subject.Poster = POSTER.now
kind_page subject.Handover = HANDOVER.now
kind_page subject.Record = RECORD.now
kind_page subject.Media = MEDIA.now
kind_page subject.External = EXTERNAL.now
kind_page subject.App = APP.now
kind_page subject.Carrier = CARRIER.now

-- the text of a page: what the program does, its words and examples; its name and version; or that of a kind
abbrev pub ndef_make_page : AskedPage → Text
ndef_make_page page.Help = HELP.now
ndef_make_page page.Version = VERSION.now
ndef_make_page (page.Kind kind) = kind_page kind

-- whether a word requests help, or ends options
abbrev pub help_word : Text → Option Bool
help_word word = if bytes_eq word (codes "--") then Some false
    else (if bytes_eq word (codes "--help") then Some true else None)

-- the words ask for help, before a word that ends options
abbrev pub asks_help : List Text → Bool
asks_help [] = false
asks_help (word ∷ words) = unwrap_or (help_word word) (asks_help words)

-- the page of the kind of record that a word names, or that of all
abbrev pub page_named : Text → AskedPage
page_named name = option_map_or page.Kind (subject_named name) page.Help

-- the page for which the words of a record ask, by the first of them
abbrev pub page_of : List Text → AskedPage
page_of [] = page.Help
page_of (name ∷ words) = page_named name

-- the page that an edit requests
abbrev pub edit_page : Option (Edit (List Text)) → AskedPage
edit_page edit = option_map_or page_of (option_and_then record_of edit) page.Help

-- the first part with the word for help, where the words have parts
abbrev pub help_part : List Text → Option (List Text)
help_part words = find (has_word (codes "--help")) (parts_of words)

-- the page that the first such part requests
abbrev pub help_page : Option (Option Text × List Text) → AskedPage
help_page None = page.Help
help_page (Some origin) =
    option_map_or (λ part. edit_page (edit_in origin.0 part)) (help_part origin.1) page.Help

-- a page about the program, as a page of this one
abbrev pub program_page : Page → AskedPage
program_page of_program.Help = page.Help
program_page of_program.Version = page.Version

-- the page for which the words ask, of which the first is the program's name: where they ask for help, that of
-- the kind of record of the first part with the word for it
abbrev pub make_page_asked : List Text → Option AskedPage
make_page_asked words = if asks_help (drop 1 words)
    then Some (help_page (origin_in (record_words words)))
    else option_map program_page (page_asked words)
