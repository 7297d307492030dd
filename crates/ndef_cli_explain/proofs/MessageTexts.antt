-- The messages of an input, one after another.
use Rattle.std.proofs.Common.{◌≡◌, ◌≢◌, ℕ, ◌+◌, ◌<◌, ◌≤◌, ap, length, refl, sym, ◌∙◌, subst, arith, List, [], ◌∷◌, ◌++◌, append_assoc, append-nil, drop}
use Rattle.std.specs.Prelude.{Err, Ok}
use Rattle.std.proofs.lemmas.List.{drop-drop}
use Rattle.ndef_format.specs.Limits.{LimitValues}
use Rattle.ndef_fields.specs.Reports.{TellsFields}
use Rattle.ndef_fields.specs.declared.report.FieldReport.{FieldReport}
use Rattle.ndef_message.specs.States.{SinkState}
use Rattle.ndef_cli.specs.Quoting.{Text}
use Rattle.ndef_cli.specs.declared.status.Status.{Status}
use Rattle.ndef_cli_explain.specs.Coloring.{shown_in}
use Rattle.ndef_cli_explain.specs.Explaining.{AreFirstTexts, AreMessageTexts, BeginsWith, bytes_reported}
use Rattle.ndef_cli_explain.specs.Forms.{LookValues}
use Rattle.ndef_cli_explain.specs.Messages.{IsMessageText}
use Rattle.ndef_cli_explain.specs.Reporting.{AreTextsOfFirst, GoesOutWhole, SendsMessages, SendsShown}
use Rattle.ndef_cli_explain.specs.declared.sending.Cut.{Cut}
use Rattle.ndef_cli_explain.proofs.Sent.{more_sent, none_sent, shown_stops}

-- ---- one message more

begins_more : (limits : LimitValues) (reported : List FieldReport) (one : FieldReport) (input : List ℕ) → BeginsWith limits reported input
    → TellsFields limits (drop (bytes_reported reported) input) (Ok one) → BeginsWith limits (reported ++ one ∷ []) input
begins_more limits [] one input first tells = (tells, tt)
begins_more limits (r ∷ more) one input first tells =
    let n : bytes_reported more + r.taken ≡ r.taken + bytes_reported more = omega arith in
    let e = drop-drop (bytes_reported more) r.taken input in
    (first.0, begins_more limits more one (drop r.taken input) first.1 (subst (λ x. TellsFields limits x (Ok one)) (sym e) tells))

texts_more : (look : LookValues) (number at next place : ℕ) (input rest : List ℕ) (reported : List FieldReport) (one : FieldReport) (text newer : Text)
    → AreMessageTexts look number at input reported text → next ≡ number + length reported → place ≡ at + bytes_reported reported
    → rest ≡ drop (bytes_reported reported) input → IsMessageText look.form next place rest one newer
    → AreMessageTexts look number at input (reported ++ one ∷ []) (text ++ shown_in look.in_color newer)
texts_more look number at next place input rest [] one text newer none n p r is =
    let a : next ≡ number = n ∙ omega arith in
    let b : place ≡ at = p ∙ omega arith in (
      newer,
      [],
      subst (λ k. IsMessageText look.form k at input one newer) a
          (subst (λ k. IsMessageText look.form next k input one newer) b (subst (λ x. IsMessageText look.form next place x one newer) r is)),
      refl,
      ap (λ x. x ++ shown_in look.in_color newer) none ∙ sym (append-nil (shown_in look.in_color newer)),
    )
texts_more look number at next place input rest (r ∷ more) one text newer (first, later, is_first, are_later, e) n p q is =
    let a : next ≡ number + 1 + length more = n ∙ omega arith in
    let b : place ≡ at + r.taken + bytes_reported more = p ∙ omega arith in
    let c : rest ≡ drop (bytes_reported more) (drop r.taken input) = q ∙ sym (drop-drop (bytes_reported more) r.taken input) in (
      first,
      later ++ shown_in look.in_color newer,
      is_first,
      texts_more look (number + 1) (at + r.taken) next place (drop r.taken input) rest more one later newer are_later a b c is,
      ap (λ x. x ++ shown_in look.in_color newer) e ∙ append_assoc (shown_in look.in_color first) later (shown_in look.in_color newer),
    )

-- the numbers of a list that is one longer
length_more : (reported : List FieldReport) (one : FieldReport) → length (reported ++ one ∷ []) ≡ length reported + 1
length_more [] one = refl
length_more (r ∷ more) one = let e = length_more more one in omega (arith, e)

bytes_more : (reported : List FieldReport) (one : FieldReport) → bytes_reported (reported ++ one ∷ []) ≡ bytes_reported reported + one.taken
bytes_more [] one = omega arith
bytes_more (r ∷ more) one = let e = bytes_more more one in omega (arith, e)

-- nothing has been explained
pub texts_none : (look : LookValues) (input : List ℕ) → AreFirstTexts look input 1 0 []
texts_none look input = record { reported = []; begins = tt; number_is = refl; at_is = refl; are_texts = refl }

-- one message more was explained
pub texts_next : (look : LookValues) (input rest : List ℕ) (number at : ℕ) (text newer : Text) (one : FieldReport)
    → AreFirstTexts look input number at text → rest ≡ drop at input → TellsFields look.origin.limits rest (Ok one) → IsMessageText look.form number at rest one newer
    → AreFirstTexts look input (number + 1) (at + one.taken) (text ++ shown_in look.in_color newer)
texts_next look input rest number at text newer one f r tells is =
    let same : rest ≡ drop (bytes_reported f.reported) input = r ∙ ap (λ n. drop n input) f.at_is in
    let n = f.number_is in
    let a = f.at_is in
    let l = length_more f.reported one in
    let b = bytes_more f.reported one in
    record {
      reported = f.reported ++ one ∷ [];
      begins = begins_more look.origin.limits f.reported one input f.begins (subst (λ x. TellsFields look.origin.limits x (Ok one)) same tells);
      number_is = omega (arith, n, l);
      at_is = omega (arith, a, b);
      are_texts = texts_more look 1 0 number at input rest f.reported one text newer f.are_texts (omega (arith, n)) (omega (arith, a)) same is;
    }

-- the output for the first messages has gone out
pub record HasSent (look : LookValues) (input : List ℕ) (number at : ℕ) (before after : SinkState) : Type 0 where
  pub text : Text
  pub texts : AreFirstTexts look input number at text
  pub out : GoesOutWhole text before after

pub sent_none : (look : LookValues) (input : List ℕ) (s : SinkState) → HasSent look input 1 0 s s
sent_none look input s = record { text = []; texts = texts_none look input; out = none_sent s }

-- the next message
pub record IsNext (look : LookValues) (input rest : List ℕ) (number at : ℕ) (one : FieldReport) : Type 0 where
  pub rest_is : rest ≡ drop at input
  pub tells : TellsFields look.origin.limits rest (Ok one)

pub sent_next : (look : LookValues) (input rest : List ℕ) (number at : ℕ) (one : FieldReport) (s t u : SinkState) (a : Status) → HasSent look input number at s t
    → IsNext look input rest number at one → SendsShown look.in_color (IsMessageText look.form number at rest one) t u (Ok a)
    → HasSent look input (number + 1) (at + one.taken) s u
sent_next look input rest number at one s t u a h n (newer, is, out) = record {
  text = h.text ++ shown_in look.in_color newer;
  texts = texts_next look input rest number at h.text newer one h.texts n.rest_is n.tells is;
  out = more_sent h.text (shown_in look.in_color newer) s t u h.out out;
}

-- memory runs out, or writing fails, at the next message
pub sent_short : (look : LookValues) (input rest : List ℕ) (number at : ℕ) (one : FieldReport) (s t u : SinkState) (cut : Cut) → HasSent look input number at s t
    → IsNext look input rest number at one → SendsShown look.in_color (IsMessageText look.form number at rest one) t u (Err cut)
    → SendsMessages look input s u (Err cut)
sent_short look input rest number at one s t u cut h n sends =
    shown_stops look.in_color (IsMessageText look.form number at rest one) (AreTextsOfFirst look input) (AreTextsOfFirst look input) h.text s t u cut h.out
    (number, at, h.texts)
    (λ newer is. (number + 1, at + one.taken, texts_next look input rest number at h.text newer one h.texts n.rest_is n.tells is)) sends

-- ---- the bytes that are left
pub none_left : (at size : ℕ) (s input : List ℕ) → at + length s ≡ length input → size ≡ length input → size ≤ at → s ≡ []
none_left at size [] input e n l = refl
none_left at size (b ∷ s) input e n l = absurd (omega (arith, e, n, l))

pub some_left : (at size : ℕ) (s input : List ℕ) → at + length s ≡ length input → size ≡ length input → at < size → s ≢ []
some_left at size [] input e n l = absurd (omega (arith, e, n, l))
some_left at size (b ∷ s) input e n l = λ h. let k = ap length h in omega (arith, k)
