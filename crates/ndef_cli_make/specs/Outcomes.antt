-- The outcome for all words: a new message, or one that is edited.
use Rattle.std.specs.Prelude.{◌≡◌, Bool, List, drop, Option, Some, None, Result, Ok, Err}
use Rattle.clap.specs.Words.{Text}
use Rattle.ndef_cli_make.specs.Edited.{IsEditedOfWords}
use Rattle.ndef_cli_make.specs.Editing.{origin_in}
use Rattle.ndef_cli_make.specs.Faults.{fault_after}
use Rattle.ndef_cli.specs.Inputs.{GivesInput}
use Rattle.ndef_cli_make.specs.SizeChecks.{size_check_in}
use Rattle.ndef_cli_make.specs.declared.fault.Fault.{Fault}
use Rattle.ndef_cli_make.specs.declared.fault.Fault.TheVariants.{Usage}
use Rattle.ndef_cli_make.specs.declared.making.Writing.{Writing}
use Rattle.ndef_cli_make.specs.declared.making.Written.{Written}
use Rattle.ndef_cli_make.specs.declared.size_check.SizeCheck.{SizeCheck}
use Rattle.ndef_cli_make.specs.declared.usage_error.UsageError.TheVariants as usage_error

-- the output for the message in a file after the edits, or for a new one, if the words after `--from` name one
abbrev pub IsMadeFrom : {I : Type 0} → GivesInput I → Option (Option Text × List Text) → Writing
    → (before after : I) → Result Written Fault → Type 0
IsMadeFrom gives None writing before after made =
    (after ≡ before) × (made ≡ Err (Usage usage_error.From))
IsMadeFrom gives (Some origin) writing before after (Ok made) =
    IsEditedOfWords gives origin writing before after (Ok made)
IsMadeFrom gives (Some origin) writing before after (Err fault) =
    (why : Fault) × IsEditedOfWords gives origin writing before after (Err why)
    × (fault ≡ fault_after origin.0 why)

-- what is written, by the words before the records, where these are words for that
abbrev pub IsSizeChecked : {I : Type 0} → GivesInput I → Option (SizeCheck × List Text) → (terminal : Bool)
    → (before after : I) → Result Written Fault → Type 0
IsSizeChecked gives None terminal before after made =
    (after ≡ before) × (made ≡ Err (Usage usage_error.Tag))
IsSizeChecked gives (Some (size_check, words)) terminal before after made =
    IsMadeFrom gives (origin_in words) (record { terminal = terminal; size_check = size_check }) before after made

-- the result of the words and the inputs: the output for the message, or why there is none
abbrev pub IsMadeOfWords : {I : Type 0} → GivesInput I → List Text → (terminal : Bool)
    → (before after : I) → Result Written Fault → Type 0
IsMadeOfWords gives words terminal before after made =
    IsSizeChecked gives (size_check_in (drop 1 words)) terminal before after made
