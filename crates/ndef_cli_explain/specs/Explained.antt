-- All that is printed of an input.
use Rattle.std.specs.Prelude.{◌≡◌, ◌≤◌, ℕ, ◌+◌, ⊤, List, [], ◌++◌, drop, length}
use Rattle.ndef_format.specs.Limits.{LimitValues}
use Rattle.ndef_fields.specs.declared.report.FieldReport.{FieldReport}
use Rattle.ndef_cli.specs.Quoting.{Text}
use Rattle.ndef_cli_explain.specs.Explaining.{AreMessageTexts, AreReported, IsStopText, bytes_reported}
use Rattle.ndef_cli_explain.specs.Coloring.{shown_in}
use Rattle.ndef_cli_explain.specs.Forms.{Form, LookValues}
use Rattle.ndef_cli_explain.specs.Recovery.{IsPastRefusal}
use Rattle.ndef_cli_explain.specs.declared.explaining.ExplainedMessages.{ExplainedMessages}
use Rattle.ndef_cli_explain.specs.declared.explaining.Stop.{Stop}
use Rattle.ndef_cli_explain.specs.declared.explaining.Stop.TheVariants.{End, Refused}

-- the output past the place where the messages stop: nothing past the end of the input
abbrev pub IsPastStop : Form → LimitValues → (input : List ℕ) → (number at : ℕ) → Stop → Text → Type 0
IsPastStop form limits input number at End text = text ≡ []
IsPastStop form limits input number at (Refused refusal) text =
    IsPastRefusal form limits input number at refusal text

-- a refused byte lies in an input of this size, or past its last byte
abbrev pub IsStopWithin : (at size : ℕ) → Stop → Type 0
IsStopWithin at size End = ⊤
IsStopWithin at size (Refused refusal) = at + refusal.at ≤ size

-- the output for the point at which messages stop, and past it
abbrev pub IsEndAt : LookValues → (input : List ℕ) → (number at : ℕ) → Stop → Text → Type 0
IsEndAt look input number at stop text =
    (last : Text) × (later : Text) × IsStopText look.form look.origin number at (drop at input) stop last
    × IsPastStop look.form look.origin.limits input number at stop later × (text ≡ last ++ later)

-- the same after messages that were explained
abbrev pub IsEnd : LookValues → (input : List ℕ) → ExplainedMessages → Text → Type 0
IsEnd look input progress text = IsEndAt look input progress.number progress.at progress.stop text

-- all that is printed of an input: its messages, where they stop, and what is past a refused record
pub record IsExplained (look : LookValues) (input : List ℕ) (stop : Stop) (text : Text) : Type 0 where
  pub reported : List FieldReport
  pub are_reported : AreReported look.origin.limits reported input stop
  pub messages : Text
  pub are_messages : AreMessageTexts look 1 0 input reported messages
  pub end : Text
  pub is_end : IsEndAt look input (length reported + 1) (bytes_reported reported) stop end
  pub text_is : text ≡ messages ++ shown_in look.in_color end
