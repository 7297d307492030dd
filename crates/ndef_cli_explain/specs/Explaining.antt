-- The output for an input: the fields of its messages, one after another, and its refusal. It has
-- either form.
use Rattle.std.specs.Prelude.{◌≡◌, ◌≢◌, ℕ, ◌+◌, ◌^◌, ◌<◌, ◌≤◌, Option, ⊤, List, [], ◌∷◌, ◌++◌, drop, length, take, Ok}
use Rattle.ndef_diagnostics.specs.declared.hint.Hint.{Hint}
use Rattle.ndef_fields.specs.Reports.{AreFieldsBefore, IsMessageFront, TellsFields}
use Rattle.ndef_fields.specs.declared.field.Field.{Field}
use Rattle.ndef_fields.specs.declared.report.FieldReport.{FieldReport}
use Rattle.ndef_format.specs.Limits.{LimitValues}
use Rattle.ndef_format.specs.NestedReasons.{TypedReason}
use Rattle.ndef_format.specs.Payloads.{IsTypedPayload}
use Rattle.ndef_format.specs.Refusals.{Refuses}
use Rattle.ndef_format.specs.declared.refusal.Refusal.{Refusal}
use Rattle.ndef_cli.specs.Quoting.{Text}
use Rattle.ndef_cli_explain.specs.Advice.{IsHint, advice_of}
use Rattle.ndef_cli_explain.specs.Coloring.{shown_in}
use Rattle.ndef_cli_explain.specs.Forms.{Form, LookValues}
use Rattle.ndef_cli_explain.specs.Messages.{IsMessageText}
use Rattle.ndef_cli_explain.specs.Recovery.{message_at}
use Rattle.ndef_cli_explain.specs.Refusals.{IsSaid, refused_text}
use Rattle.ndef_cli_explain.specs.Shell.{Origin}
use Rattle.ndef_cli_explain.specs.declared.explaining.ExplainedMessages.{ExplainedMessages}
use Rattle.ndef_cli_explain.specs.declared.explaining.Stop.{Stop}
use Rattle.ndef_cli_explain.specs.declared.explaining.Stop.TheVariants.{End, Refused}
use Rattle.ndef_cli_explain.specs.declared.said_refusal.SaidRefusal.{SaidRefusal}

-- ---- the messages

-- NDEF 1.0, messages: an input begins with these messages, one after another
abbrev pub BeginsWith : LimitValues → List FieldReport → (input : List ℕ) → Type 0
BeginsWith limits [] input = ⊤
BeginsWith limits (reported ∷ more) input =
    TellsFields limits input (Ok reported) × BeginsWith limits more (drop reported.taken input)

-- NDEF 1.0, messages: nothing is left of an input, or it goes on with no message
abbrev pub StopsAt : LimitValues → (rest : List ℕ) → Stop → Type 0
StopsAt limits rest End = rest ≡ []
StopsAt limits rest (Refused refusal) = (rest ≢ []) × Refuses IsTypedPayload TypedReason limits rest refusal

-- NDEF 1.0, messages: the messages of an input, one after another, and where they stop
abbrev pub AreReported : LimitValues → List FieldReport → (input : List ℕ) → Stop → Type 0
AreReported limits [] input stop = StopsAt limits input stop
AreReported limits (reported ∷ more) input stop =
    TellsFields limits input (Ok reported) × AreReported limits more (drop reported.taken input) stop

-- the bytes of all these messages
abbrev pub bytes_reported : List FieldReport → ℕ
bytes_reported [] = 0
bytes_reported (reported ∷ more) = reported.taken + bytes_reported more

-- the output for messages, each in colour or not, of which the first has this number and this place
abbrev pub AreMessageTexts : LookValues → (number at : ℕ) (input : List ℕ) → List FieldReport → Text → Type 0
AreMessageTexts look number at input [] text = text ≡ []
AreMessageTexts look number at input (reported ∷ more) text =
    (one : Text) × (later : Text) × IsMessageText look.form number at input reported one
    × AreMessageTexts look (number + 1) (at + reported.taken) (drop reported.taken input) more later
    × (text ≡ shown_in look.in_color one ++ later)

-- the output for the first messages of an input, and the number and the place of the next one
pub record AreFirstTexts (look : LookValues) (input : List ℕ) (number at : ℕ) (text : Text) : Type 0 where
  pub reported : List FieldReport
  pub begins : BeginsWith look.origin.limits reported input
  pub number_is : number ≡ length reported + 1
  pub at_is : at ≡ bytes_reported reported
  pub are_texts : AreMessageTexts look 1 0 input reported text

-- ---- the end

-- the output for a refusal, at this place, with this input left: its description, with a hint, if one applies
abbrev pub IsRefusedText : Form → Origin → (number at : ℕ) (input : List ℕ) → Refusal → Text → Type 0
IsRefusedText form origin number at input refusal text =
    (before : List Field) × (hint : Option Hint) × (said : SaidRefusal) × AreFieldsBefore (take refusal.at input) before
    × IsHint origin.limits input refusal hint
    × IsSaid input input refusal (advice_of origin at (length input) hint) said
    × (text ≡ refused_text form (message_at number at 0) (take refusal.at input) before said)

-- the output for the point at which the messages stop
abbrev pub IsStopText : Form → Origin → (number at : ℕ) (input : List ℕ) → Stop → Text → Type 0
IsStopText form origin number at input End text = text ≡ []
IsStopText form origin number at input (Refused refusal) text = IsRefusedText form origin number at input refusal text

-- a text of this kind is appended
abbrev pub Appends : (Text → Type 0) → (old new : Text) → Type 0
Appends IsText old new = (text : Text) × IsText text × (new ≡ old ++ text)

-- the place of a refusal can be counted, and the bytes before it are a front of a message
abbrev pub FitsStop : (at : ℕ) (input : List ℕ) → Stop → Type 0
FitsStop at input End = ⊤
FitsStop at input (Refused refusal) = (at + refusal.at < 2 ^ 64) × IsMessageFront (take refusal.at input)

-- the output for the messages up to where they stop, and the rest of the input
pub record Explains (look : LookValues) (input : List ℕ) (text : Text) (progress : ExplainedMessages) : Type 0 where
  pub first : AreFirstTexts look input progress.number progress.at text
  pub stops : StopsAt look.origin.limits progress.rest.now progress.stop
  pub rest_is : progress.rest.now ≡ drop progress.at input
  pub numbers : progress.number ≤ progress.at + 1
  pub fits : FitsStop progress.at progress.rest.now progress.stop
