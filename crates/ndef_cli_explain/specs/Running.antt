-- The program: a function of its words, of the bytes of the inputs and of whether its output takes colours.
use Rattle.std.specs.Prelude.{◌≡◌, ℕ, Bool, true, false, List, [], ◌∷◌, codes, Option, Some, None, Result, Ok, Err}
use Rattle.ndef_message.specs.States.{SinkState}
use Rattle.ndef_message.specs.declared.input.InputError.{InputError}
use Rattle.ndef_message.specs.declared.sending.WriteFault.{WriteFault}
use Rattle.ndef_cli.specs.Inputs.{GivesInput}
use Rattle.ndef_cli.specs.Quoting.{Text}
use Rattle.ndef_cli.specs.Statuses.{worse}
use Rattle.ndef_cli.specs.Outputs.{Prints}
use Rattle.ndef_cli.specs.Pages.{page_asked}
use Rattle.ndef_cli.specs.declared.args_error.ArgsError.{ArgsError}
use Rattle.ndef_cli.specs.declared.args_error.ArgsError.TheVariants.{Usage, NoMemory}
use Rattle.ndef_cli.specs.declared.pages.Page.{Page}
use Rattle.ndef_cli.specs.declared.status.Status.{Status}
use Rattle.ndef_cli.specs.declared.status.Status.TheVariants as status
use Rattle.ndef_cli_explain.specs.Chosen.{Asks, asked_parts}
use Rattle.ndef_cli_explain.specs.Pages.{page_text}
use Rattle.ndef_cli_explain.specs.Reporting.{TellsNext}
use Rattle.ndef_cli_explain.specs.declared.choice.Asked.{Asked}
use Rattle.ndef_cli_explain.specs.declared.choice.ExplainChoice.{ExplainChoice}
use Rattle.ndef_cli_explain.specs.declared.choice.Color.{Color}
use Rattle.ndef_cli_explain.specs.declared.choice.Color.TheVariants as color
use Rattle.ndef_cli_explain.specs.declared.running.TheConstants.{USAGE}
use Rattle.ndef_cli_explain.specs.declared.reporting.ReportOptions.{ReportOptions}

-- ---- the inputs, one after another

-- what the program has before it: the inputs, and its output
pub record World (I : Type 0) : Type 0 where
  pub inputs : I
  pub output : SinkState

-- the inputs and the output
abbrev pub world : {I : Type 0} → I → SinkState → World I
world inputs output = record { inputs = inputs; output = output }

-- how it goes: what is before the program and after it, and the status to which it comes
pub record Course (I : Type 0) : Type 0 where
  pub before : World I
  pub after : World I
  pub status : Status

-- from here to there, with this status
abbrev pub course : {I : Type 0} → World I → World I → Status → Course I
course before after status = record { before = before; after = after; status = status }

-- what comes next comes, unless writing failed
abbrev pub GoesOnUnlessFailed : {I : Type 0} → Result Status WriteFault → (next : Status → Type 0) → Course I → Type 0
GoesOnUnlessFailed (Ok st) next c = next st
GoesOnUnlessFailed (Err fault) next c = (c.after ≡ c.before) × (c.status ≡ status.Fault)

-- the inputs of these names are read and explained, one after another, after others that came to a status
abbrev pub TellsAll : {I : Type 0} → GivesInput I → ReportOptions → (names : List Text) → Status → Course I → Type 0
TellsAll gives options [] st c = (c.after ≡ c.before) × (c.status ≡ st)
TellsAll {I} gives options (name ∷ names) st c =
    (read : Result (List ℕ) InputError) × (middle : World I) × (reported : Result Status WriteFault)
    × gives c.before.inputs name read middle.inputs × TellsNext options name read c.before.output middle.output reported
    × GoesOnUnlessFailed reported
    (λ next. TellsAll gives options names (worse st next) (course middle c.after c.status))
    (course middle c.after c.status)

-- ---- a run

-- a text is sent, this is the status, and the inputs are left
abbrev pub AnswersWords : {I : Type 0} → Text → Status → Course I → Type 0
AnswersWords text st c =
    (c.after.inputs ≡ c.before.inputs) × Prints text st c.before.output c.after.output c.status

-- whether output is in colour
abbrev pub is_in_color : Color → (takes_color : Bool) → Bool
is_in_color color.Auto takes_color = takes_color
is_in_color color.Always takes_color = true
is_in_color color.Never takes_color = false

-- files are named
abbrev pub is_named : List Text → Bool
is_named [] = false
is_named (name ∷ names) = true

-- the files that are named, or standard input
abbrev pub inputs_of : List Text → List Text
inputs_of [] = codes "-" ∷ []
inputs_of (name ∷ names) = name ∷ names

-- how inputs are explained
abbrev pub report_options_of : ExplainChoice → (takes_color named : Bool) → ReportOptions
report_options_of choice takes_color named = record {
  limits = choice.limits;
  hex = choice.hex;
  in_color = is_in_color choice.color takes_color;
  json = choice.json;
  shown = choice.shown;
  wanted = choice.wanted;
  named = named;
}

-- the inputs for which the words ask are explained
abbrev pub TellsAsked : {I : Type 0} → GivesInput I → (takes_color : Bool) → ExplainChoice × List Text → Course I
    → Type 0
TellsAsked gives takes_color (choice, files) c =
    TellsAll gives (report_options_of choice takes_color (is_named files)) (inputs_of files) status.Clean c

-- the outcome of the words
abbrev pub RunsFor : {I : Type 0} → GivesInput I → (takes_color : Bool) → Result Asked ArgsError → Course I → Type 0
RunsFor gives takes_color (Ok asked) c = TellsAsked gives takes_color (asked_parts asked) c
RunsFor gives takes_color (Err Usage) c = AnswersWords USAGE.now status.Usage c
RunsFor gives takes_color (Err NoMemory) c = (c.after ≡ c.before) × (c.status ≡ status.Fault)

-- a page, or the outcome of the words
abbrev pub RunsAsked : {I : Type 0} → GivesInput I → List Text → (takes_color : Bool) → Option Page → Course I
    → Type 0
RunsAsked gives words takes_color (Some page) c = AnswersWords (page_text page) status.Clean c
RunsAsked gives words takes_color None c =
    (asked : Result Asked ArgsError) × Asks words asked × RunsFor gives takes_color asked c

-- the whole program
abbrev pub Runs : {I : Type 0} → GivesInput I → List Text → (takes_color : Bool) → Course I → Type 0
Runs gives words takes_color c = RunsAsked gives words takes_color (page_asked words) c
