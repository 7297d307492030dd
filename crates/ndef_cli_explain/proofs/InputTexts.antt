-- What goes out of an input.
use Rattle.std.proofs.Common.{◌≡◌, ◌∙◌, List, [], ◌++◌, ℕ, Result, Err, Ok, ap, append-nil, drop, inl, inr, refl, subst, sym}
use Rattle.std.specs.Prelude.{◌&&◌, not}
use Rattle.ndef_message.specs.States.{SinkState}
use Rattle.ndef_message.specs.declared.input.InputError.{InputError}
use Rattle.ndef_message.specs.declared.sending.WriteFault.{WriteFault}
use Rattle.ndef_cli.specs.Quoting.{Text}
use Rattle.ndef_cli.specs.declared.status.Status.{Status}
use Rattle.ndef_cli.specs.declared.status.Status.TheVariants as status
use Rattle.ndef_cli_explain.specs.Coloring.{shown_in}
use Rattle.ndef_cli_explain.specs.Explained.{IsEnd, IsPastStop}
use Rattle.ndef_cli_explain.specs.Explaining.{Appends, IsStopText}
use Rattle.ndef_cli_explain.specs.Forms.{LookValues}
use Rattle.ndef_cli_explain.specs.Inputs.{AreInputOctets}
use Rattle.ndef_cli_explain.specs.Reporting.{GoesOutWhole, IsAnyBody, IsAnyExplanation, IsAnyReported, IsFirstBody, IsFirstExplanation, IsFirstReported, IsFirstWanted, IsWanted, SendsBody, SendsExplanation, SendsInput, SendsMessages, SendsOut, SendsRaw, SendsShown, TellsNext, heading, heading_text, look_at, memory_text, stop_status}
use Rattle.ndef_cli_explain.specs.declared.choice.Wanted.TheVariants as wanted
use Rattle.ndef_cli_explain.specs.declared.explaining.ExplainedMessages.{ExplainedMessages}
use Rattle.ndef_cli_explain.specs.declared.inputs.Unread.{Unread}
use Rattle.ndef_cli_explain.specs.declared.raw.RawInput.{RawInput}
use Rattle.ndef_cli_explain.specs.declared.reporting.ReportOptions.{ReportOptions}
use Rattle.ndef_cli_explain.specs.declared.sending.Cut.{Cut}
use Rattle.ndef_cli_explain.specs.declared.sending.Cut.TheVariants.{Memory, Writing}
use Rattle.ndef_cli_explain.proofs.Ends.{explained}
use Rattle.ndef_cli_explain.proofs.MessageTexts.{texts_none}
use Rattle.ndef_cli_explain.proofs.Sent.{more_fails, more_sent, none_sent, shown_stops, stops_as, stops_more}

-- ---- the bytes of an input

pub end_is : (look : LookValues) (input : List ℕ) (progress : ExplainedMessages) (old new newer text : Text) → old ≡ [] → progress.rest.now ≡ drop progress.at input
    → Appends (IsStopText look.form look.origin progress.number progress.at progress.rest.now progress.stop) old new
    → Appends (IsPastStop look.form look.origin.limits input progress.number progress.at progress.stop) new newer → text ≡ newer → IsEnd look input progress text
end_is look input progress old new newer text none rest s l is = (
  s.0,
  l.0,
  subst (λ x. IsStopText look.form look.origin progress.number progress.at x progress.stop s.0) rest s.1,
  l.1,
  is ∙ l.2 ∙ ap (λ x. x ++ l.0) (s.2 ∙ ap (λ x. x ++ s.0) none),
)

pub octets_sent : (look : LookValues) (input : List ℕ) (progress : ExplainedMessages) (s t u : SinkState) (a st : Status) → SendsMessages look input s t (Ok progress)
    → SendsShown look.in_color (IsEnd look input progress) t u (Ok a) → st ≡ stop_status progress.stop → SendsBody look (Ok input) s u (Ok st)
octets_sent look input progress s t u a st (text, e, out) (end, is, more) same = (
  text ++ shown_in look.in_color end,
  (progress.stop, explained look input text end progress e is, same),
  more_sent text (shown_in look.in_color end) s t u out more,
)

pub octets_short : (look : LookValues) (input : List ℕ) (progress : ExplainedMessages) (s t u : SinkState) (cut : Cut) → SendsMessages look input s t (Ok progress)
    → SendsShown look.in_color (IsEnd look input progress) t u (Err cut) → SendsBody look (Ok input) s u (Err cut)
octets_short look input progress s t u cut (text, e, out) sends =
    shown_stops look.in_color (IsEnd look input progress) (IsFirstBody look (Ok input)) (IsAnyBody look (Ok input)) text s t u cut out
    (progress.number, progress.at, e.first)
    (λ end is. inr (stop_status progress.stop, (progress.stop, explained look input text end progress e is, refl))) sends

-- ---- the explanation, after the line of the name

first_none : (look : LookValues) (octets : Result (List ℕ) Unread) → IsFirstBody look octets []
first_none look (Ok octets) = (1, 0, texts_none look octets)
first_none look (Err unread) = refl

any_after : (options : ReportOptions) (name : Text) (octets : Result (List ℕ) Unread) (body : Text) → IsAnyBody (look_at options name) octets body
    → IsAnyExplanation options name octets (heading_text options name ++ body)
any_after options name octets body (inl first) = inl (inr (body, first, refl))
any_after options name octets body (inr whole) = inr (whole.0, (body, whole.1, refl))

explanation_after : (options : ReportOptions) (name : Text) (octets : Result (List ℕ) Unread) (s t u : SinkState) (r : Result Status Cut) → GoesOutWhole (heading_text options name) s t
    → SendsBody (look_at options name) octets t u r → SendsExplanation options name octets s u r
explanation_after options name octets s t u (Ok st) out (text, is, more) =
    (heading_text options name ++ text, (text, is, refl), more_sent (heading_text options name) text s t u out more)
explanation_after options name octets s t u (Err cut) out stops =
    stops_more (IsFirstBody (look_at options name) octets) (IsAnyBody (look_at options name) octets) (IsFirstExplanation options name octets) (IsAnyExplanation options name octets)
    (heading_text options name) s t u cut out (λ b first. inr (b, first, refl)) (any_after options name octets) stops

pub explanation_sent : (options : ReportOptions) (name line : Text) (octets : Result (List ℕ) Unread) (s t u : SinkState) (a : Status) (r : Result Status Cut)
    → line ≡ heading (not options.json && options.named) name → SendsShown (look_at options name).in_color (λ x. x ≡ line) s t (Ok a)
    → SendsBody (look_at options name) octets t u r → SendsExplanation options name octets s u r
explanation_sent options name line octets s t u a r is (text, same, out) body =
    explanation_after options name octets s t u r (subst (λ x. GoesOutWhole (shown_in (look_at options name).in_color x) s t) (same ∙ is) out) body

pub explanation_short : (options : ReportOptions) (name line : Text) (octets : Result (List ℕ) Unread) (s u : SinkState) (cut : Cut)
    → line ≡ heading (not options.json && options.named) name → SendsShown (look_at options name).in_color (λ x. x ≡ line) s u (Err cut)
    → SendsExplanation options name octets s u (Err cut)
explanation_short options name line octets s u Memory is same = ([], inl refl, subst (GoesOutWhole [] s) (sym same) (none_sent s))
explanation_short options name line octets s u (Writing fault) is (text, same, fails) =
    let color = (look_at options name).in_color in (
      shown_in color text,
      inl (inr ([], first_none (look_at options name) octets, ap (shown_in color) (same ∙ is) ∙ sym (append-nil (heading_text options name)))),
      fails,
    )

-- ---- what is wanted of an input

any_wanted : (options : ReportOptions) (name : Text) (read : Result (List ℕ) InputError) (octets : Result (List ℕ) Unread) → options.wanted ≡ wanted.Explanation
    → AreInputOctets options.hex read octets → (b : Text) → IsAnyExplanation options name octets b → IsAnyReported options name read b
any_wanted options name read octets w are b (inl first) = inl (octets, are, subst (λ x. IsFirstWanted x options name octets b) (sym w) first)
any_wanted options name read octets w are b (inr whole) = inr (whole.0, (octets, are, subst (λ x. IsWanted x options name octets b whole.0) (sym w) whole.1))

pub input_explained : (options : ReportOptions) (name : Text) (read : Result (List ℕ) InputError) (octets : Result (List ℕ) Unread) (s u : SinkState) (r : Result Status Cut)
    → options.wanted ≡ wanted.Explanation → AreInputOctets options.hex read octets → SendsExplanation options name octets s u r → SendsInput options name read s u r
input_explained options name read octets s u (Ok st) w are (text, is, out) = (text, (octets, are, subst (λ x. IsWanted x options name octets text st) (sym w) is), out)
input_explained options name read octets s u (Err cut) w are stops =
    stops_as (IsFirstExplanation options name octets) (IsAnyExplanation options name octets) (IsFirstReported options name read) (IsAnyReported options name read) s u cut
    (λ b first. (octets, are, subst (λ x. IsFirstWanted x options name octets b) (sym w) first)) (any_wanted options name read octets w are) stops

pub input_raw : (options : ReportOptions) (name : Text) (read : Result (List ℕ) InputError) (octets : Result (List ℕ) Unread) (raw : RawInput) (s u : SinkState) (r : Result Status Cut)
    → AreInputOctets options.hex read octets → IsWanted options.wanted options name octets raw.text raw.status → SendsRaw raw s u r → SendsInput options name read s u r
input_raw options name read octets raw s u (Ok st) are is (out, e) = (raw.text, (octets, are, subst (IsWanted options.wanted options name octets raw.text) (sym e) is), out)
input_raw options name read octets raw s u (Err Memory) are is never = absurd never
input_raw options name read octets raw s u (Err (Writing fault)) are is fails = (raw.text, inr (raw.status, (octets, are, is)), fails)

-- ---- where memory runs out

pub next_memory : (options : ReportOptions) (name : Text) (read : Result (List ℕ) InputError) (s t u : SinkState) (r : Result Status WriteFault) → SendsInput options name read s t (Err Memory)
    → SendsOut (memory_text options.wanted options.json) status.Fault t u r → TellsNext options name read s u r
next_memory options name read s t u (Ok st) (front, first, out) (more, e) =
    let text = memory_text options.wanted options.json in
    (front ++ text, inr (front, first, refl, e), more_sent front text s t u out more)
next_memory options name read s t u (Err fault) (front, first, out) fails =
    let text = memory_text options.wanted options.json in
    (front ++ text, inr (status.Fault, inr (front, first, refl, refl)), more_fails front text s t u out fails)
