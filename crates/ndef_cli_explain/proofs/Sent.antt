-- Texts that go out one after another.
use Rattle.std.proofs.Common.{◌≡◌, ◌<◌, ◌+◌, ℕ, min, append_assoc, Bool, true, false, [], ◌∷◌, ◌++◌, length, take, refl, sym, ◌∙◌, subst, arith, Result, Err, Ok}
use Rattle.std.proofs.KnownBytes.{Appends-nil, Appends-trans, Keeps-refl, Keeps-trans}
use Rattle.std.proofs.Math.Seq.{take-append-add}
use Rattle.std.proofs.Math.Nat.{min-le_right}
use Rattle.std.proofs.lemmas.List.{take-append-le, take_min}
use Rattle.std.specs.Io.KnownBytes.{Appends}
use Rattle.ndef_message.specs.States.{SinkState}
use Rattle.ndef_cli.specs.Outputs.{GoesOut, SendsTo}
use Rattle.ndef_cli.specs.Quoting.{Text}
use Rattle.ndef_cli.specs.declared.status.Status.{Status}
use Rattle.ndef_cli.specs.declared.status.Status.TheVariants.{Clean}
use Rattle.ndef_message.specs.declared.sending.WriteFault.{WriteFault}
use Rattle.ndef_cli_explain.specs.Coloring.{shown_in}
use Rattle.ndef_cli_explain.specs.Reporting.{FailsToGoOut, GoesOutWhole, SendsNext, SendsOut, SendsShown, StopsShort}
use Rattle.ndef_cli_explain.specs.declared.sending.Cut.{Cut}
use Rattle.ndef_cli_explain.specs.declared.sending.Cut.TheVariants.{Memory, Writing}

-- ---- whole texts

sends_none : (had : Bool) (s : SinkState) → s.failed ≡ had → SendsTo had [] s s
sends_none false s e = rw e (Appends-nil s.written)
sends_none true s e = (Keeps-refl s.written, e)

-- nothing goes out
pub none_sent : (s : SinkState) → GoesOutWhole [] s s
none_sent s = (sends_none s.failed s refl, refl, λ l. absurd (omega (arith, l)))

sends_more : (had : Bool) (a b : Text) (s t u : SinkState) → t.failed ≡ had → u.failed ≡ had → SendsTo had a s t → SendsTo had b t u → SendsTo had (a ++ b) s u
sends_more false a b s t u e f p q =
    rw f
    (Appends-trans s.written t.written u.written a b (subst (λ x. GoesOut s.written t.written x a) e p) (subst (λ x. GoesOut t.written u.written x b) f q))
sends_more true a b s t u e f p q = (Keeps-trans s.written t.written u.written p.0 q.0, f)

some_sent : (a b : Text) (s t : Bool) → t ≡ s → (0 < length a → s ≡ false) → (0 < length b → t ≡ false) → 0 < length (a ++ b) → s ≡ false
some_sent [] b s t e x y l = sym e ∙ y l
some_sent (c ∷ a) b s t e x y l = x (omega arith)

-- one text goes out after another
pub more_sent : (a b : Text) (s t u : SinkState) → GoesOutWhole a s t → GoesOutWhole b t u → GoesOutWhole (a ++ b) s u
more_sent a b s t u (p, e, x) (q, f, y) = (
  sends_more s.failed a b s t u e (f ∙ e) p (subst (λ h. SendsTo h b t u) e q),
  f ∙ e,
  some_sent a b s.failed t.failed e x y,
)

-- ---- texts that do not go out whole

fails_by : (had : Bool) (a b : Text) (s t u : SinkState) → t.failed ≡ had → u.failed ≡ true → SendsTo had a s t → SendsTo had b t u → SendsTo had (a ++ b) s u
fails_by false a b s t u e f p q =
    let g = subst (λ x. GoesOut t.written u.written x b) f q in
    rw f (
      length a + g.0,
      subst (Appends s.written u.written) (sym (take-append-add a b g.0))
          (Appends-trans s.written t.written u.written a (take g.0 b) (subst (λ x. GoesOut s.written t.written x a) e p) g.1),
    )
fails_by true a b s t u e f p q = (Keeps-trans s.written t.written u.written p.0 q.0, f)

-- writing a text fails after another went out
pub more_fails : (a b : Text) (s t u : SinkState) → GoesOutWhole a s t → FailsToGoOut b t u → FailsToGoOut (a ++ b) s u
more_fails a b s t u (p, e, x) (q, f) = (fails_by s.failed a b s t u e f p (subst (λ h. SendsTo h b t u) e q), f)

take_more : (n : ℕ) (a b : Text) → take n a ≡ take (min n (length a)) (a ++ b)
take_more n a b = sym (take_min n a) ∙ sym (take-append-le (min n (length a)) a b (min-le_right n (length a)))

fails_within : (had : Bool) (a b : Text) (s t : SinkState) → t.failed ≡ true → SendsTo had a s t → SendsTo had (a ++ b) s t
fails_within false a b s t f p =
    let g = subst (λ x. GoesOut s.written t.written x a) f p in
    rw f (min g.0 (length a), subst (Appends s.written t.written) (take_more g.0 a b) g.1)
fails_within true a b s t f p = p

-- writing a text fails, and others would come after it
pub fails_early : (a b : Text) (s t : SinkState) → FailsToGoOut a s t → FailsToGoOut (a ++ b) s t
fails_early a b s t (p, f) = (fails_within s.failed a b s t f p, f)

-- a text is sent after another
pub next_sent : (a b : Text) (s t u : SinkState) (st : Status) (r : Result Status WriteFault) → SendsOut a Clean s t (Ok st) → SendsOut b Clean t u r → SendsOut (a ++ b) Clean s u r
next_sent a b s t u st (Ok x) (p, _) (q, is) = (more_sent a b s t u p q, is)
next_sent a b s t u st (Err fault) (p, _) q = more_fails a b s t u p q

-- two texts are sent after another
pub next_two : (one two three : Result Status WriteFault) (a b : Text) (s t u : SinkState) → SendsNext one a s t two → SendsNext two b t u three → SendsNext one (a ++ b) s u three
next_two one two three a b s t u p q earlier start is =
    subst (λ x. SendsOut x Clean start u three) (append_assoc earlier a b) (q (earlier ++ a) start (p earlier start is))

-- a text goes out before others that stop short
pub stops_more : (IsFirst IsAny IsNewFirst IsNewAny : Text → Type 0) (a : Text) (s t u : SinkState) (cut : Cut) → GoesOutWhole a s t
    → ((b : Text) → IsFirst b → IsNewFirst (a ++ b)) → ((b : Text) → IsAny b → IsNewAny (a ++ b)) → StopsShort IsFirst IsAny t u cut
    → StopsShort IsNewFirst IsNewAny s u cut
stops_more IsFirst IsAny IsNewFirst IsNewAny a s t u Memory out first any (b, is, sent) = (a ++ b, first b is, more_sent a b s t u out sent)
stops_more IsFirst IsAny IsNewFirst IsNewAny a s t u (Writing fault) out first any (b, is, fails) = (a ++ b, any b is, more_fails a b s t u out fails)

-- texts of one kind that stop short are of another
pub stops_as : (IsFirst IsAny IsNewFirst IsNewAny : Text → Type 0) (s t : SinkState) (cut : Cut) → ((b : Text) → IsFirst b → IsNewFirst b)
    → ((b : Text) → IsAny b → IsNewAny b) → StopsShort IsFirst IsAny s t cut → StopsShort IsNewFirst IsNewAny s t cut
stops_as IsFirst IsAny IsNewFirst IsNewAny s t Memory first any (b, is, sent) = (b, first b is, sent)
stops_as IsFirst IsAny IsNewFirst IsNewAny s t (Writing fault) first any (b, is, fails) = (b, any b is, fails)

-- a text that is shown after another that went out stops short
pub shown_stops : (in_color : Bool) (IsText IsNewFirst IsNewAny : Text → Type 0) (a : Text) (s t u : SinkState) (cut : Cut) → GoesOutWhole a s t → IsNewFirst a
    → ((b : Text) → IsText b → IsNewAny (a ++ shown_in in_color b)) → SendsShown in_color IsText t u (Err cut) → StopsShort IsNewFirst IsNewAny s u cut
shown_stops in_color IsText IsNewFirst IsNewAny a s t u Memory out first any same = (a, first, subst (GoesOutWhole a s) (sym same) out)
shown_stops in_color IsText IsNewFirst IsNewAny a s t u (Writing fault) out first any (b, is, fails) =
    (a ++ shown_in in_color b, any b is, more_fails a (shown_in in_color b) s t u out fails)

-- a text of one kind that is shown is of another
pub shown_as : (in_color : Bool) (IsText IsNew : Text → Type 0) (s t : SinkState) (r : Result Status Cut) → ((b : Text) → IsText b → IsNew b)
    → SendsShown in_color IsText s t r → SendsShown in_color IsNew s t r
shown_as in_color IsText IsNew s t (Ok a) f (b, is, out) = (b, f b is, out)
shown_as in_color IsText IsNew s t (Err Memory) f same = same
shown_as in_color IsText IsNew s t (Err (Writing fault)) f (b, is, fails) = (b, f b is, fails)
