-- All that is printed of an input.
use Rattle.std.proofs.Common.{ℕ, ◌≤◌, refl, ap, arith, length, length-drop, sym, ◌∙◌, subst, List, [], ◌∷◌, ◌++◌, drop}
use Rattle.std.proofs.lemmas.List.{drop-drop}
use Rattle.ndef_format.specs.Limits.{LimitValues}
use Rattle.ndef_fields.specs.declared.report.FieldReport.{FieldReport}
use Rattle.ndef_cli.specs.Quoting.{Text}
use Rattle.ndef_cli_explain.specs.Coloring.{shown_in}
use Rattle.ndef_cli_explain.specs.Explained.{IsEnd, IsEndAt, IsExplained, IsStopWithin}
use Rattle.ndef_cli_explain.specs.Explaining.{AreReported, BeginsWith, Explains, StopsAt, bytes_reported}
use Rattle.ndef_cli_explain.specs.Forms.{LookValues}
use Rattle.ndef_cli_explain.specs.declared.explaining.ExplainedMessages.{ExplainedMessages}
use Rattle.ndef_cli_explain.specs.declared.explaining.Stop.{Stop}
use Rattle.ndef_cli_explain.specs.declared.explaining.Stop.TheVariants.{End, Refused}

-- messages, and where they stop
reported_by : (limits : LimitValues) (reported : List FieldReport) (input : List ℕ) (stop : Stop) → BeginsWith limits reported input
    → StopsAt limits (drop (bytes_reported reported) input) stop → AreReported limits reported input stop
reported_by limits [] input stop begins stops = stops
reported_by limits (r ∷ more) input stop (tells, begins) stops =
    let e = drop-drop (bytes_reported more) r.taken input ∙ ap (λ n. drop n input) (omega arith) in
    (tells, reported_by limits more (drop r.taken input) stop begins (subst (λ x. StopsAt limits x stop) (sym e) stops))

pub explained : (look : LookValues) (input : List ℕ) (text end : Text) (progress : ExplainedMessages) → Explains look input text progress
    → IsEnd look input progress end → IsExplained look input progress.stop (text ++ shown_in look.in_color end)
explained look input text end progress e is =
    let f = e.first in
    let stops = subst (λ x. StopsAt look.origin.limits x progress.stop) (e.rest_is ∙ ap (λ n. drop n input) f.at_is) e.stops in
    record {
      reported = f.reported;
      are_reported = reported_by look.origin.limits f.reported input progress.stop f.begins stops;
      messages = text;
      are_messages = f.are_texts;
      end = end;
      is_end =
          subst (λ n. IsEndAt look input n (bytes_reported f.reported) progress.stop end) f.number_is
          (subst (λ n. IsEndAt look input progress.number n progress.stop end) f.at_is is);
      text_is = refl;
    }

-- ---- where the messages stop

-- the first messages are no longer than the input
first_within : (limits : LimitValues) (reported : List FieldReport) (input : List ℕ) → BeginsWith limits reported input → bytes_reported reported ≤ length input
first_within limits [] input first = omega arith
first_within limits (r ∷ more) input (tells, first) =
    let n = length-drop r.taken input in
    let w = first_within limits more (drop r.taken input) first in
    let count = tells.1 in
    let within = tells.0.within in
    omega (arith, n, w, count, within)

-- a refused byte lies in the input, or past its last byte
stop_within : (limits : LimitValues) (at : ℕ) (input : List ℕ) (stop : Stop) → at ≤ length input → StopsAt limits (drop at input) stop → IsStopWithin at (length input) stop
stop_within limits at input End l stops = tt
stop_within limits at input (Refused refusal) l (some, refuses) =
    let within = refuses.place.within in
    let n = length-drop at input in
    omega (arith, within, n, l)

pub stop_fits : (look : LookValues) (input : List ℕ) (text : Text) (progress : ExplainedMessages) → Explains look input text progress → IsStopWithin progress.at (length input) progress.stop
stop_fits look input text progress e =
    let a = e.first.at_is in
    let w = first_within look.origin.limits e.first.reported input e.first.begins in
    stop_within look.origin.limits progress.at input progress.stop (omega (arith, a, w)) (subst (λ x. StopsAt look.origin.limits x progress.stop) e.rest_is e.stops)
