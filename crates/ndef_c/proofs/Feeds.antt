-- The answers of a checker to all the bytes that it was fed.
use Rattle.std.proofs.Common.{◌≡◌, ℕ, ◌+◌, ◌<◌, ◌≤◌, inl, inr, refl, sym, ◌∙◌, ap, subst, arith, List, ◌++◌, length, map, take, drop, append_assoc}
use Rattle.std.specs.List.{AllByRecursion}
use Rattle.std.proofs.lemmas.Bool.{cases_lt}
use Rattle.std.proofs.lemmas.List.{length-map, take_all, take-append-drop}
use Rattle.ndef_format.specs.Messages.{SpellsBy, run_record}
use Rattle.ndef_format.specs.Limits.{LimitValues}
use Rattle.ndef_format.specs.Reasons.{reason_number, Conditions}
use Rattle.ndef_format.specs.declared.reason.Reason.TheVariants.{EndOfInput}
use Rattle.ndef_format.specs.declared.refusal.Refusal.{Refusal}
use Rattle.ndef_format.specs.Payloads.{Sets, IsTypedPayload}
use Rattle.ndef_format.specs.Accepted.{Accepted, IsAccepted, IsMember, IsViable}
use Rattle.ndef_message.specs.Feed.{CountsMessage, BeginsWithMessage, IsLongestViable, MessagesAreLongest}
use Rattle.ndef_format.specs.Refusals.{Refuses}
use Rattle.ndef_format.specs.NestedReasons.{TypedReason}
use Rattle.ndef_c.specs.Checks.{limits_of, ChecksTo, MayBeSet}
use Rattle.ndef_c.specs.Feeding.{AnswersFed, AnyPayload, FeedsTo, NoCondition, checked_status}
use Rattle.ndef_c.specs.declared.checking.NdefChecked.{NdefChecked}
use Rattle.ndef_c.specs.declared.limits.NdefLimits.{NdefLimits}
use Rattle.ndef_c.specs.declared.status.TheConstants.{OK, REFUSED, BAD_ARGUMENT, MORE}

-- bytes that can be completed are all accepted
all_accepted : (set : Sets) (limits : LimitValues) (bytes : List ℕ) (n : ℕ) → IsViable set limits bytes → IsLongestViable set limits bytes n → n ≡ length bytes
all_accepted set limits bytes n v a =
    let w = a.within in
    elim (cases_lt n (length bytes)) as (λ _. n ≡ length bytes) [
      | inl h ↦ absurd (a.most h (shorter (n + 1)))
      | inr h ↦ omega arith
    ]
  where
    shorter : (m : ℕ) → IsViable set limits (take m bytes)
    shorter m = (drop m bytes ++ v.0, subst (IsAccepted set limits) (ap (λ x. x ++ v.0) (sym (take-append-drop m bytes)) ∙ append_assoc (take m bytes) (drop m bytes) v.0) v.1)

-- ---- what is answered of all the bytes

module _ {set : Sets} (holds : Conditions) {limits : LimitValues} (bytes : List ℕ) (out : NdefChecked) where
  -- more bytes are needed
  pub fed_more : IsViable set limits bytes → ¬ IsAccepted set limits bytes → (place : ℕ) → IsLongestViable set limits bytes place → out.place ≡ place → out.records ≡ 0 → out.reason ≡ reason_number EndOfInput
      → FeedsTo set holds limits bytes MORE out
  fed_more v u place longest e0 e1 e2 =
      let n : place ≡ length bytes = all_accepted set limits bytes place v longest in
      let refusal : Refusal = record { at = place; reason = EndOfInput } in
      let whole = take_all place bytes (omega arith) in
      let refused : Refuses set holds limits bytes refusal = record {
        place = record { within = omega arith; viable = rw whole v; unended = rw whole u; stops = λ h. absurd (omega arith) };
        why = record { at_end = λ q. refl; at_byte = λ h. absurd (omega arith) };
      } in record {
        checks = inr (refl, record { refusal = refusal; refused = refused; place = e0; records = e1; reason = e2 });
        more = ((λ q. ((λ r. (let z : 5 ≡ 0 = r in absurd (omega arith))), e0 ∙ n)), (λ q. refl));
      }

  -- they have a message at their front
  pub fed_done : MessagesAreLongest set → (count : ℕ) → BeginsWithMessage set limits bytes count → IsLongestViable set limits bytes out.place → CountsMessage set limits bytes out.records → out.reason ≡ 0
      → FeedsTo set holds limits bytes OK out
  fed_done are count has longest counts e =
      let accepted : Accepted set limits has.1.0 (take count bytes) = has.1.1 in
      let same : has.1.0 ≡ map run_record accepted.runs = sym accepted.spelling.message.items in
      let seen : Accepted set limits (map run_record accepted.runs) (take count bytes) = record {
        runs = accepted.runs;
        spelling = subst (λ m. SpellsBy limits.profile accepted.runs m (take count bytes)) same accepted.spelling;
        within = accepted.within;
        members = subst (AllByRecursion (IsMember set limits)) same accepted.members;
      } in
      record {
        checks = inl (
          refl,
          record {
            viewed = record { taken = count; runs = accepted.runs; profile = limits.profile };
            views = (has.0, (seen, refl), refl);
            place = are limits bytes count out.place has longest;
            records = counts has.1.0 count has.0 accepted ∙ ap length same ∙ length-map accepted.runs run_record;
            reason = e;
          },
        );
        more = ((λ q. (let z : 0 ≡ 5 = q in absurd (omega arith))), (λ q. absurd (q.0 refl)));
      }

  -- one of them is refused
  pub fed_refused : (refusal : Refusal) → refusal.at < length bytes → Refuses set holds limits bytes refusal → out.place ≡ refusal.at → out.records ≡ 0 → out.reason ≡ reason_number refusal.reason
      → FeedsTo set holds limits bytes REFUSED out
  fed_refused refusal h refused e0 e1 e2 = record {
    checks = inr (refl, record { refusal = refusal; refused = refused; place = e0; records = e1; reason = e2 });
    more = ((λ q. (let z : 1 ≡ 5 = q in absurd (omega arith))), (λ q. let p = q.1 in absurd (omega (arith, p, e0, h))));
  }

-- ---- whether a checker was begun

never_bad : {set : Sets} {holds : Conditions} {limits : LimitValues} {bytes : List ℕ} {status : ℕ} {out : NdefChecked} → FeedsTo set holds limits bytes status out → ¬ (status ≡ BAD_ARGUMENT)
never_bad {set} {holds} {limits} {bytes} {status} {out} f e =
    elim (subst (λ s. ChecksTo set holds limits bytes (checked_status s) out) e f.checks) as (λ _. ⊥) [
      | inl a ↦ let z : ◌≡◌ {A = ℕ} 3 0 = a.0 in absurd (omega arith)
      | inr b ↦ let z : ◌≡◌ {A = ℕ} 3 1 = b.0 in absurd (omega arith)
    ]

pub answers_typed : (limits : NdefLimits) (bytes : List ℕ) (status : ℕ) (before after : NdefChecked) → MayBeSet limits → limits.flags < 2
    → FeedsTo IsTypedPayload TypedReason (limits_of limits) bytes status after → AnswersFed limits bytes status before after
answers_typed limits bytes status before after set few f = record {
  bad = ((λ e. absurd (never_bad f e)), (λ n. absurd (n set)));
  kept = λ e. absurd (never_bad f e);
  typed = λ _ _. f;
  opaque = λ _ many. absurd (omega (arith, few, many));
}

pub answers_opaque : (limits : NdefLimits) (bytes : List ℕ) (status : ℕ) (before after : NdefChecked) → MayBeSet limits → 2 ≤ limits.flags
    → FeedsTo AnyPayload NoCondition (limits_of limits) bytes status after → AnswersFed limits bytes status before after
answers_opaque limits bytes status before after set many f = record {
  bad = ((λ e. absurd (never_bad f e)), (λ n. absurd (n set)));
  kept = λ e. absurd (never_bad f e);
  typed = λ _ few. absurd (omega (arith, few, many));
  opaque = λ _ _. f;
}
