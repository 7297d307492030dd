-- The output from one place to another.
use Rattle.std.proofs.Common.{◌≡◌, ◌<◌, ◌≤◌, ℕ, ◌+◌, ◌-◌, length, take, Bool, true, false, arith, if◌then◌else◌, Option, Some, None, Result, Ok, Err, refl, ◌∙◌, ap, sym, subst, append_assoc, append-nil, List, [], ◌∷◌, ◌++◌, drop}
use Rattle.std.specs.Prelude.{IfOk, IfSome, OnOk, unwrap_or, slice_index, nat_le, not, ◌&&◌, ◌==◌}
use Rattle.std.proofs.lemmas.Bool.{leb-false}
use Rattle.std.proofs.lemmas.List.{drop-drop, drop_all, get_or-drop, take_all}
use Rattle.ndef_format.specs.Limits.{LimitValues}
use Rattle.ndef_cli.specs.Quoting.{Text}
use Rattle.ndef_cli_explain.specs.Explaining.{Appends}
use Rattle.ndef_cli_explain.specs.Forms.{Form}
use Rattle.ndef_cli_explain.specs.Recovery.{AreCounts, IsLater, IsNext, IsRecovery, as_read, is_over, past}
use Rattle.ndef_cli_explain.specs.declared.refused_record.RefusedRecord.{RefusedRecord}
use Rattle.ndef_cli_explain.specs.declared.recovery_place.Recovery.{Recovery}

-- what is printed from a place on continues what is printed from the first
pub record KeepsOn (form : Form) (limits : LimitValues) (input : List ℕ) (first from : Recovery) (old new : Text) : Type 0 where
  pub done : Text
  pub done_is : new ≡ old ++ done
  pub goes_on : (last : Recovery) (later : Text) → IsRecovery form limits input from last later → IsRecovery form limits input first last (done ++ later)

pub keeps_first : (form : Form) (limits : LimitValues) (input : List ℕ) (first : Recovery) (old : Text) → KeepsOn form limits input first first old old
keeps_first form limits input first old = record { done = []; done_is = sym (append-nil old); goes_on = λ last later h. h }

-- one step more
pub keeps_next : (form : Form) (limits : LimitValues) (input : List ℕ) (first from next : Recovery) (old new newer : Text) → KeepsOn form limits input first from old new
    → is_over from.records (drop from.at input) ≡ false → Appends (IsNext form limits (as_read from.records (drop from.at input)) (drop from.at input) from next) new newer
    → KeepsOn form limits input first next old newer
keeps_next form limits input first from next old new newer k over (one, is, e) = record {
  done = k.done ++ one;
  done_is = e ∙ ap (λ x. x ++ one) k.done_is ∙ append_assoc old k.done one;
  goes_on = λ last later h. rw (append_assoc k.done one later) (k.goes_on last (one ++ later) (next ∷ h.0, (one, later, over, is, h.1, refl)));
}

-- no step more
pub keeps_last : (form : Form) (limits : LimitValues) (input : List ℕ) (first from : Recovery) (old new : Text) → KeepsOn form limits input first from old new
    → is_over from.records (drop from.at input) ≡ true → Appends (IsRecovery form limits input first from) old new
keeps_last form limits input first from old new k over =
    (k.done ++ [], k.goes_on from [] ([], (over, refl, refl)), k.done_is ∙ ap (λ x. old ++ x) (sym (append-nil k.done)))

-- ---- places

by_last : (last : Bool) (m n bound : ℕ) → m ≤ bound → n ≤ bound → (if last then m else n) ≤ bound
by_last true m n bound a b = a
by_last false m n bound a b = b

past_by : (from : Recovery) (found : RefusedRecord) (end size : ℕ) → AreCounts from → found.before + 1 ≤ end → end ≤ size → IsLater from (past from found end) size
past_by from found end size counts before within =
    let message = counts.message in
    let records = counts.records in
    let sound = counts.sound in
    let refused = counts.refused in (
      omega (arith, before),
      omega (arith, within),
      record {
        message = by_last found.last (from.message + 1) from.message (from.at + end + 1) (omega (arith, message, before)) (omega (arith, message));
        records = by_last found.last 0 (from.records + found.before + 1) (from.at + end) (omega arith) (omega (arith, records, before));
        sound = omega (arith, sound, before);
        refused = omega (arith, refused, before);
      },
    )

past_where : (from : Recovery) (found : RefusedRecord) (end : Option ℕ) (size : ℕ) → AreCounts from → found.before + 1 ≤ size → IfSome end (λ e. e ≤ size)
    → IfSome end (λ e. found.before + 1 < e) → IsLater from (past from found (unwrap_or end size)) size
past_where from found None size counts before within later = past_by from found size size counts before (omega arith)
past_where from found (Some end) size counts before within later = past_by from found end size counts (omega (arith, later)) within

-- the place past a refused record comes later
pub past_later : (from : Recovery) (found : RefusedRecord) (size : ℕ) → AreCounts from → found.before + 1 ≤ size → IfSome found.end (λ e. e ≤ size)
    → IfSome found.end (λ e. found.before + 1 < e) → IsLater from (past from found (unwrap_or found.end size)) size
past_later from found size = past_where from found found.end size

-- a clause of what was returned
pub if_ok : {A E : Type 0} {P Q : A → Type 0} → ((x : A) → P x → Q x) → (r : Result A E) → IfOk r P → IfOk r Q
if_ok f (Ok x) p = f x p
if_ok f (Err e) p = tt

pub on_ok : {A E P Q : Type 0} → (P → Q) → (r : Result A E) → OnOk r P → OnOk r Q
on_ok f (Ok x) p = f p
on_ok f (Err e) p = tt

-- ---- a copy of the input

-- MB is clear where more records of a message come
clear_at : (records : ℕ) (bytes : List ℕ) → is_over records bytes ≡ false → (records == 0) ≡ false → slice_index bytes 0 < 128
clear_at records [] over some = absurd (let e : true ≡ false = over in cc)
clear_at records (octet ∷ bytes) over some = leb-false 128 octet (sym (ap (λ b. not b && nat_le 128 octet) some) ∙ over)

pub clear_in : (records at : ℕ) (copy input : List ℕ) → drop at copy ≡ drop at input → is_over records (drop at input) ≡ false → (records == 0) ≡ false
    → slice_index copy at < 128
clear_in records at copy input same over some =
    let e : slice_index (drop at copy) 0 ≡ slice_index copy at = get_or-drop at copy 0 0 ∙ ap (slice_index copy) (omega arith) in
    subst (λ n. n < 128) e (clear_at records (drop at copy) (ap (is_over records) same ∙ over) some)

-- what a vector has after its slice was changed
pub whole_copy : (n : ℕ) (new items : List ℕ) → length new ≡ length items → length items ≡ n → take n (new ++ drop (length new) items) ≡ new
whole_copy n new items e f =
    ap (λ x. take n (new ++ x)) (drop_all (length new) items (omega (arith, e))) ∙ ap (take n) (append-nil new) ∙ take_all n new (omega (arith, e, f))

-- what is the same from a place on is the same from a later one
pub same_later : (at next : ℕ) (a b : List ℕ) → at ≤ next → drop at a ≡ drop at b → drop next a ≡ drop next b
same_later at next a b l e =
    let n : at + (next - at) ≡ next = omega (arith, l) in
    subst (λ k. drop k a ≡ drop k b) n (sym (drop-drop (next - at) at a) ∙ ap (drop (next - at)) e ∙ drop-drop (next - at) at b)
