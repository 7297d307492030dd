-- The pages about the program itself.
use Rattle.ndef_cli.specs.Quoting.{Text}
use Rattle.ndef_cli.specs.declared.pages.Page.{Page}
use Rattle.ndef_cli.specs.declared.pages.Page.TheVariants as page
use Rattle.ndef_cli_explain.specs.declared.pages.TheConstants.{HELP, VERSION}

-- the text of a page
abbrev pub page_text : Page → Text
page_text page.Help = HELP.now
page_text page.Version = VERSION.now
