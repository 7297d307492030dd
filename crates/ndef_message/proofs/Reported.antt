-- The result for an input follows from its bytes.
use Rattle.std.proofs.Common.{◌≡◌, ℕ, ◌<◌, ◌≤◌, ◌⊎◌, inl, inr, refl, sym, ◌∙◌, ap, subst, arith, List, length, take, Ok, Err, length-append, length-take}
use Rattle.std.specs.Prelude.{slice_index}
use Rattle.ndef_format.specs.Records.{Piece, Run}
use Rattle.ndef_format.specs.Limits.{LimitValues}
use Rattle.ndef_format.specs.Laws.{OneMeaning, OneRefusal}
use Rattle.ndef_format.specs.Reasons.{RanksAreApart, Conditions, IsLowest}
use Rattle.ndef_format.specs.declared.reason.Reason.{Reason}
use Rattle.ndef_format.specs.declared.refusal.Refusal.{Refusal}
use Rattle.ndef_format.specs.Payloads.{Sets}
use Rattle.ndef_format.specs.Accepted.{IsAccepted}
use Rattle.ndef_format.specs.Positions.{Field, InHead, InType, InId, InPayload, AtEnd}
use Rattle.ndef_piece.specs.Field.{OneField}
use Rattle.ndef_format.specs.Refusals.{IsReason, IsWhy}
use Rattle.ndef_message.specs.Feed.{OneJudgement}
use Rattle.ndef_message.proofs.Places.{front_of, order, one_place, no_prefix_is_deep}

one_lowest : RanksAreApart → (holds : Reason → Type 0) (a b : Reason) → IsLowest holds a → IsLowest holds b → a ≡ b
one_lowest ranks holds a b x y =
    let h = x.first b y.it in
    let k = y.first a x.it in
    ranks a b (omega arith)

one_reason : RanksAreApart → (holds : Conditions) (limits : LimitValues) (runs : List Run) (begun : List Piece) (field : Field) (byte : ℕ) (a b : Reason)
    → IsReason holds limits runs begun field byte a → IsReason holds limits runs begun field byte b → a ≡ b
one_reason ranks holds limits runs begun (InHead front) byte a b x y = x ∙ sym y
one_reason ranks holds limits runs begun (InType head name) byte a b x y = x ∙ sym y
one_reason ranks holds limits runs begun (InId head name id) byte a b x y = x ∙ sym y
one_reason ranks holds limits runs begun (InPayload head name id content) byte a b x y = one_lowest ranks _ a b x y
one_reason ranks holds limits runs begun AtEnd byte a b x y = absurd x

within_or_at : (place size : ℕ) → place ≤ size → (place < size) ⊎ (place ≡ size)
within_or_at place size h = elim (order place size) as (λ v. (place < size) ⊎ (place ≡ size)) [ inl g ↦ inl g | inr g ↦ inr (omega arith) ]

one_why : RanksAreApart → OneField → (holds : Conditions) (limits : LimitValues) (bytes : List ℕ) (place : ℕ) (a b : Reason) → place ≤ length bytes
    → IsWhy holds limits bytes place a → IsWhy holds limits bytes place b → a ≡ b
one_why ranks fields holds limits bytes place a b h x y =
    elim (within_or_at place (length bytes) h) [
      | inl g ↦
          let v = x.at_byte g in
          let w = y.at_byte g in
          let e = fields limits (take place bytes) v.0 w.0 v.1 w.1 v.2 w.2 v.3 w.3 in
          let byte = slice_index bytes place in
          one_reason ranks holds limits v.0 v.1 v.2 byte a b v.4
          (subst (λ f. IsReason holds limits v.0 v.1 f byte b) (sym e.2) (subst (λ g. IsReason holds limits v.0 g w.2 byte b) (sym e.1) (subst (λ r. IsReason holds limits r w.1 w.2 byte b) (sym e.0) w.4)))
      | inr g ↦ x.at_end g ∙ sym (y.at_end g)
    ]

make : (p q : ℕ) (a b : Reason) → p ≡ q → a ≡ b → ◌≡◌ {A = Refusal} (record { at = p; reason = a }) (record { at = q; reason = b })
make p q a b e f = rw (e, f) refl

pub one_refusal : RanksAreApart → OneField → (set : Sets) (holds : Conditions) → OneRefusal set holds
one_refusal ranks fields set holds limits bytes r s x y =
    let e = one_place set limits bytes r.at s.at x.place y.place in
    let why = subst (λ place. IsWhy holds limits bytes place s.reason) (sym e) y.why in
    make r.at s.at r.reason s.reason e (one_why ranks fields holds limits bytes r.at r.reason s.reason x.place.within x.why why)

-- of two messages that the same bytes begin with neither is shorter
not_shorter : OneMeaning → (set : Sets) (limits : LimitValues) (input : List ℕ) (m n : ℕ) → m < n → n ≤ length input
    → IsAccepted set limits (take m input) → IsAccepted set limits (take n input) → ⊥
not_shorter meaning set limits input m n h within a b =
    let w = front_of m n input (omega arith) in
    let e = meaning limits.profile limits.profile a.0 b.0 (take m input) (take n input) w.0 (a.1.runs, a.1.spelling) (b.1.runs, b.1.spelling) w.1 in
    omega (arith, ap length w.1, ap length e.1, length-append (take m input) w.0, length-take m input, length-take n input)

pub one_length : OneMeaning → (set : Sets) (limits : LimitValues) (input : List ℕ) (m n : ℕ) → m ≤ length input → n ≤ length input
    → IsAccepted set limits (take m input) → IsAccepted set limits (take n input) → m ≡ n
one_length meaning set limits input m n h k a b =
    elim (order m n) as (λ v. m ≡ n) [
      | inl g ↦ absurd (not_shorter meaning set limits input m n g k a b)
      | inr g ↦ elim (order n m) as (λ v. m ≡ n) [ inl l ↦ absurd (not_shorter meaning set limits input n m l h b a) | inr l ↦ omega arith ]
    ]

pub one_judgement : OneMeaning → RanksAreApart → OneField → (set : Sets) (holds : Conditions) → OneJudgement set holds
one_judgement meaning ranks fields set holds limits input (Ok m) (Ok n) x y = ap (λ k. Ok k) (one_length meaning set limits input m n x.0 y.0 x.1 y.1)
one_judgement meaning ranks fields set holds limits input (Ok m) (Err s) x y = absurd (no_prefix_is_deep meaning set limits input s.at m y.place x.1)
one_judgement meaning ranks fields set holds limits input (Err r) (Ok n) x y = absurd (no_prefix_is_deep meaning set limits input r.at n x.place y.1)
one_judgement meaning ranks fields set holds limits input (Err r) (Err s) x y = ap (λ z. Err z) (one_refusal ranks fields set holds limits input r s x y)
